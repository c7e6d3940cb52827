use Rattle.std.proofs.Common.{rules, ◌∙◌}
use borrow.Author.Tests.{tests}
use Rattle.std.specs.Str.{bytes_eq}
use Rattle.std.proofs.lemmas.Iterator.{YieldsList-from_slice}
use Rattle.std.proofs.lemmas.Iterator.Search.{find_from_yields_List}
use Rattle.kind.proofs.kinds.find.Goals as goal

pub returns : goal.returns
returns g c =
    c.copied.ensures
    ∙ find_from_yields_List (λ k. bytes_eq (g.K.Named.label k) c.args.name.now) _ _ c.find-kind.result c.find-kind.ensures.ran (YieldsList-from_slice c.args.kinds.now c.iter.ensures.rest) (λ x b q k. search (rules, tests))
