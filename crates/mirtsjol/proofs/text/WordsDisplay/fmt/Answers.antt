use Rattle.std.proofs.Common.{◌≡◌, ℕ, ◌+◌, ◌<◌, List, [], ◌++◌, length, take, get_or, codes, decimal, sym, ap, ◌∙◌, rules}
use Rattle.std.proofs.Output.{has_written_append, has_written_of_eq}
use Rattle.std.proofs.lemmas.List.{take_more, flat_map_more}
use Rattle.mirtsjol.specs.Texts.{spaced}
use Rattle.mirtsjol.proofs.text.WordsDisplay.fmt.Goals as goal

-- one number more
spaced_more : (ns : List ℕ) (i : ℕ) → i < length ns → spaced (take i ns) ++ (codes " " ++ decimal (get_or ns i 0)) ≡ spaced (take (i + 1) ns)
spaced_more ns i h = flat_map_more (λ n. codes " " ++ decimal n) [] (take i ns) (get_or ns i 0) ∙ ap spaced (sym (take_more ns i 0 h))

pub loop-word-preserved : goal.loop-word-preserved
loop-word-preserved g c plain =
    let so_far = c.loop-word.invariant plain in
    let this = c.write-in-loop-word.ensures.writes so_far.plain (search rules) in
    has_written_of_eq _ _ _ _ _ (spaced_more _ _ c.loop-word-test.true) (has_written_append _ _ _ _ _ _ so_far this)
