-- Positions as they are handed in, as they are kept and as they are printed. Assumes nothing.
use Rattle.std.specs.Prelude.{ℕ, Bool, true, cond, not, ◌&&◌, ◌||◌, List, ◌++◌, Some, None, Ok, Err, codes, decimal, Option, Result, ◌==◌, nat_le}
use Rattle.node.specs.declared.faults.TableFault.{TableFault}
use Rattle.node.specs.declared.faults.TableFault.TheVariants.{Range}
use Rattle.node.specs.declared.positions.Position.{Position}
use Rattle.node.specs.declared.positions.RawPosition.{RawPosition}
use Rattle.node.specs.declared.positions.RawSpan.{RawSpan}
use Rattle.node.specs.declared.positions.Span.{Span}

-- no position
abbrev pub none : Position
none = record { line = 0; pos = 0 }

-- a line and a column in range: both at most 65,535, and line 0 only in 0:0
abbrev pub in_place : RawPosition → Bool
in_place p = nat_le p.line 65535 && (nat_le p.column 65535 && (not (p.line == 0) || p.column == 0))

abbrev pub placed : RawPosition → Position
placed p = record { line = p.line; pos = p.column }

-- what holds of a datum where it is given
abbrev pub if_given : {A : Type 0} → (A → Bool) → Option A → Bool
if_given test None = true
if_given test (Some x) = test x

abbrev pub in_place_span : RawSpan → Bool
in_place_span s = in_place s.start && in_place s.end

abbrev pub placed_span : RawSpan → Span
placed_span s = record { start = placed s.start; end = placed s.end }

-- line 0 is out of range
abbrev pub position_at : ℕ → ℕ → Result Position TableFault
position_at line column = cond (line == 0) (Err (Range 0)) (Ok (record { line = line; pos = column }))

abbrev pub is_none : Position → Bool
is_none p = p.line == 0 && p.pos == 0

-- the line of a position
abbrev pub line_of : Position → Option ℕ
line_of p = cond (is_none p) None (Some p.line)

-- the column of a position that is not the beginning of a line
abbrev pub column_of : Position → Option ℕ
column_of p = cond (is_none p || p.pos == 0) None (Some p.pos)

abbrev pub begins_line : Position → Bool
begins_line p = p.pos == 0 && not (is_none p)

abbrev pub or_else : Position → Position → Position
or_else p q = cond (is_none p) q p

abbrev pub is_none_span : Span → Bool
is_none_span s = is_none s.start && is_none s.end

-- a position in words
abbrev pub worded : Position → List ℕ
worded p = cond (is_none p) (codes "none") (codes "line " ++ (decimal p.line ++ (codes ", position " ++ decimal p.pos)))

-- a position in numbers: the line, and the column unless it is 0
abbrev pub brief : Position → List ℕ
brief p =
    cond (is_none p) (codes "none")
    (cond (begins_line p) (decimal p.line) (decimal p.line ++ (codes ":" ++ decimal p.pos)))

-- begin and end on two lines, and on one
abbrev pub across : Position → Position → List ℕ
across p q = brief p ++ (codes "-" ++ brief q)

abbrev pub along : Position → Position → List ℕ
along p q = decimal p.line ++ (codes ":" ++ (decimal p.pos ++ (codes "-" ++ decimal q.pos)))

-- a span: what there is of begin and end
abbrev pub span_text : Span → List ℕ
span_text s =
    cond (is_none s.start)
    (cond (is_none s.end) (codes "none") (codes ".." ++ brief s.end))
    (cond (is_none s.end) (brief s.start)
    (cond (s.start.line == s.end.line) (along s.start s.end) (across s.start s.end)))
