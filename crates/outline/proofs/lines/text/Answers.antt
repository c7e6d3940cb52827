use Rattle.std.proofs.Common.{◌≡◌, ◌+◌, length, ap, ◌∙◌, take, arith}
use Rattle.std.proofs.lemmas.List.Sums.{suffix_len-le-length}
use Rattle.std.specs.List.{suffix_len}
use Rattle.outline.specs.Reading.{is_blank, text_end}
use Rattle.outline.proofs.Reading.{trimmed_start, trimmed_text}
use Rattle.outline.proofs.lines.text.Goals as goal

pub returns : goal.returns
returns c =
    let rest = c.trim_start_matches-rest.result.now in
    let text = c.range.result.now in
    let end : length rest ≡ suffix_len is_blank rest + length text = omega (arith, c.range.ensures.len, c.end_of_text.ensures.value, ap text_end c.as_bytes.ensures.value, suffix_len-le-length is_blank rest) in
    trimmed_text c.args.line.now rest text c.trim_start_matches-rest.ensures.value (trimmed_start _ _ c.trim_start_matches-rest.ensures.matches)
    (c.range.ensures.value ∙ ap (λ k. take k rest) {y = length text} (omega (arith, c.range.ensures.len))) end
