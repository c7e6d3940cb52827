use Rattle.std.proofs.Common.{◌≡◌, [], drop, sym, ◌∙◌, arith, length-drop}
use Rattle.std.proofs.lemmas.List.{drop_all, take_all, take_rest}
use Rattle.node.proofs.texts.part.Goals as goal

pub returns-then-start-text : goal.returns-then-start-text
returns-then-start-text c =
    let text = c.args.text.now in
    let none : drop c.args.start text ≡ [] = drop_all c.args.start text (omega arith) in
    sym (take_all c.args.len (drop c.args.start text) (simp (none) (omega arith)) ∙ none)

pub returns-then-len-text : goal.returns-then-len-text
returns-then-len-text c =
    let text = c.args.text.now in
    take_rest text c.args.start
    ∙ sym (take_all c.args.len (drop c.args.start text) (simp length-drop (omega arith)))
