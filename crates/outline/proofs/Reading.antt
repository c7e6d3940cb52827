-- What is left of a line when its ends are cut off. Assumes nothing.
use Rattle.std.proofs.Common.{◌≡◌, ℕ, ◌+◌, ◌-◌, List, [], ◌∷◌, ◌++◌, length, drop, take, reverse, min, Some, None, sym, refl, ap, ◌∙◌, arith}
use Rattle.std.proofs.lemmas.Bool.Decides.{nat_tests}
use Rattle.std.proofs.lemmas.List.{length-reverse, reverse-append, take-append-drop}
use Rattle.std.proofs.lemmas.List.Sums.{prefix_len-le-length}
use Rattle.std.proofs.lemmas.List.Folds.{prefix_len-append}
use Rattle.std.proofs.lemmas.Str.{encode_ascii, len_utf8_ascii}
use Rattle.std.proofs.lemmas.Str.Pattern.{drop_at_char}
use Rattle.std.specs.List.{prefix_len, suffix_len}
use Rattle.std.specs.Str.Pattern.{CutsPrefixes, FindsCharPrefix, IsFullyTrimmed, IsTrimStartMatches}
use Rattle.outline.specs.Reading.{is_blank, spaces, text_end, text_of}

-- each match cut off the front is a space
cut_spaces : (s r ns : List ℕ) → CutsPrefixes (FindsCharPrefix 32) s ns r → spaces s + length r ≡ length s + spaces r
cut_spaces s r [] is = rw is (omega arith)
cut_spaces s r (n ∷ ns) (m, cuts, at, is) =
    let front : m ≡ 32 ∷ r = drop_at_char 32 m 0 n at (omega arith) ∙ ap (λ es. 32 ∷ es) (sym is) in
    omega (arith, cut_spaces s m ns cuts, ap spaces front, ap length front)

no_space : (r : List ℕ) → IsFullyTrimmed (FindsCharPrefix 32) r → spaces r ≡ 0
no_space r (Some n, at, e) = absurd (omega (arith, at.ends, len_utf8_ascii 32 (omega arith)))
no_space [] (None, at, e) = refl
no_space (b ∷ r) (None, at, e) = grind (arith, nat_tests, at r, encode_ascii 32)

pub trimmed_start : (s r : List ℕ) → IsTrimStartMatches (FindsCharPrefix 32) s r → length s ≡ spaces s + length r
trimmed_start s r ((ns, cuts), end) = omega (arith, cut_spaces s r ns cuts, no_space r end)

-- what follows in a list counts only where all before it do
prefix_len-front : (xs ys : List ℕ) → prefix_len is_blank xs ≡ min (prefix_len is_blank (xs ++ ys)) (length xs)
prefix_len-front xs ys = grind (arith, nat_tests, prefix_len-append is_blank xs ys, prefix_len-le-length is_blank xs)

-- so what is trimmed at both ends is the text
pub trimmed_text : (s m t : List ℕ) → m ≡ drop (length s - length m) s → length s ≡ spaces s + length m → t ≡ take (length t) m → length m ≡ suffix_len is_blank m + length t → t ≡ text_of s
trimmed_text s m t cut front kept back =
    let n = spaces s in
    let rest : m ≡ drop n s = cut ∙ ap (λ k. drop k s) {y = n} (omega arith) in
    let whole : s ≡ take n s ++ m = sym (take-append-drop n s) ∙ ap (λ es. take n s ++ es) (sym rest) in
    let less : suffix_len is_blank m ≡ min (suffix_len is_blank s) (length m) =
    prefix_len-front (reverse m) (reverse (take n s)) ∙ omega (arith, ap (prefix_len is_blank) (ap reverse whole ∙ reverse-append (take n s) m), length-reverse m) in
    kept ∙ ap (λ k. take k m) {y = text_end s - n} (omega arith) ∙ ap (take (text_end s - n)) rest
