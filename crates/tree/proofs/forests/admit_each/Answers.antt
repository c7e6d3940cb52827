use Rattle.std.proofs.Common.{refl}
use Rattle.tree.proofs.Admitted.{all_pass, passed}
use Rattle.tree.proofs.forests.admit_each.Goals as goal

pub loop-n-init : goal.loop-n-init
loop-n-init g c = record { known = all_pass _ _ _ (passed _ c.all_known.ensures c.in_ok-all_known.was); low = refl }
