use Rattle.std.proofs.Common.{◌∙◌, ap}
use Rattle.std.specs.Option.{ok_or}
use Rattle.kind.specs.Kinds.{exprs}
use Rattle.kind.specs.declared.kinds.NoKind.{NoKind}
use Rattle.kind.specs.declared.kinds.ExprKind.TheVariants.{Unit}
use Rattle.kind.proofs.Numbers.{read_or}
use Rattle.kind.proofs.kinds.ExprKindTryFromU32.try_from.Goals as goal

pub returns : goal.returns
returns c =
    let refusal : NoKind = record { number = c.args.number } in
    c.ok_or.ensures.value ∙ ap (λ kind. ok_or kind refusal) c.copied.ensures ∙ read_or (λ x. x.now) exprs c.args.number c.get-kind.result Unit refusal c.get-kind.ensures.lookup
