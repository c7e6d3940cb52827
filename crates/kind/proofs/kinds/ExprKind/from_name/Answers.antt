use Rattle.std.proofs.Common.{ap, ◌∙◌}
use Rattle.kind.specs.Kinds.{expr_named}
use Rattle.kind.proofs.Naming.{expr_found}
use Rattle.kind.proofs.kinds.ExprKind.from_name.Goals as goal

pub returns : goal.returns
returns c = record { value = c.find.ensures; finds = λ k same. c.find.ensures ∙ ap expr_named same ∙ expr_found k }
