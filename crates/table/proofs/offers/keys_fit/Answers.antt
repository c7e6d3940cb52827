use Rattle.std.proofs.Common.{◌≡◌, rules}
use Rattle.table.specs.Puts.{keys_apart}
use Rattle.table.proofs.Keys.{apart_is}
use Rattle.table.proofs.offers.keys_fit.Goals as goal

pub returns-in-Some-Keys : goal.returns-in-Some-Keys
returns-in-Some-Keys c =
    let apart : c.keys_distinct.result ≡ keys_apart c.args.text.now c.args.idents.now = apart_is c.args.text.now c.args.idents.now c.keys_distinct.result c.keys_distinct.ensures in
    search rules
