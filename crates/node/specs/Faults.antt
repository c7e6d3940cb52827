-- The faults of the text, the store and the table: number, layer and place of each. Assumes nothing.
use Rattle.std.specs.Prelude.{ℕ, Ok, Err, Result}
use Rattle.tree.specs.declared.faults.Layer.{Layer}
use Rattle.tree.specs.declared.faults.Layer.TheVariants as layer
use Rattle.node.specs.declared.faults.Lower.{Lower}
use Rattle.node.specs.declared.faults.StoreFault.{StoreFault}
use Rattle.node.specs.declared.faults.StoreFault.TheVariants as store
use Rattle.node.specs.declared.faults.TableFault.{TableFault}
use Rattle.node.specs.declared.faults.TableFault.TheVariants.{Missing, Range, Text, Misfit, Held, Size, Full, Store}
use Rattle.node.specs.declared.faults.TextFault.{TextFault}

abbrev pub text_number : TextFault → ℕ
text_number f = 4

abbrev pub text_layer : TextFault → Layer
text_layer f = layer.Text

abbrev pub store_number : StoreFault → ℕ
store_number (store.Missing place) = 2

abbrev pub store_layer : StoreFault → Layer
store_layer f = layer.Store

-- a lower fault keeps its number and layer
abbrev pub table_number : TableFault → ℕ
table_number (Missing place) = 2
table_number (Range place) = 3
table_number (Text f place) = text_number f
table_number (Misfit place) = 5
table_number (Held place) = 6
table_number (Size place) = 7
table_number (Full place) = 8
table_number (Store f place) = store_number f

abbrev pub table_layer : TableFault → Layer
table_layer (Missing place) = layer.Table
table_layer (Range place) = layer.Table
table_layer (Text f place) = text_layer f
table_layer (Misfit place) = layer.Table
table_layer (Held place) = layer.Table
table_layer (Size place) = layer.Table
table_layer (Full place) = layer.Table
table_layer (Store f place) = store_layer f

-- the place that the table gives it
abbrev pub table_place : TableFault → ℕ
table_place (Missing place) = place
table_place (Range place) = place
table_place (Text f place) = place
table_place (Misfit place) = place
table_place (Held place) = place
table_place (Size place) = place
table_place (Full place) = place
table_place (Store f place) = place

-- a result with the place of an upper layer added to its fault
abbrev pub added : {T F : Type 0} → Result T F → ℕ → Result T (Lower F)
added (Ok x) place = Ok x
added (Err f) place = Err (record { fault = f; place = place })
