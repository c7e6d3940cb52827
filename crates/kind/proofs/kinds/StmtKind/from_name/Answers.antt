use Rattle.std.proofs.Common.{ap, ◌∙◌}
use Rattle.kind.specs.Kinds.{stmt_named}
use Rattle.kind.proofs.Naming.{stmt_found}
use Rattle.kind.proofs.kinds.StmtKind.from_name.Goals as goal

pub returns : goal.returns
returns c = record { value = c.find.ensures; finds = λ k same. c.find.ensures ∙ ap stmt_named same ∙ stmt_found k }
