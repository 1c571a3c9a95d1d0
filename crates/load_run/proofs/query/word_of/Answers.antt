use Rattle.std.proofs.Common.{◌≡◌, ◌∙◌, ◌++◌, List, ℕ, length, drop, replicate, ap}
use Rattle.std.proofs.lemmas.List.{take_at}
use Rattle.term_impacts.specs.Form.{IsWordText, word_form}
use Rattle.term_impacts.proofs.FormLemmas.{set-word_form, zeros_left}
use Rattle.load_run.proofs.query.word_of.Goals as goal

pub unreachable-requires : goal.unreachable-requires
unreachable-requires c =
    let text : List ℕ = c.args.text.now in
    let copy : List ℕ = c.copy_from_slice.new.self in
    let n : ℕ = length text in
    let form : List ℕ = copy ++ drop n (replicate 33 0) in
    let same : copy ≡ text = c.copy_from_slice.ensures.after ∙ c.as_bytes.ensures.value in
    let made = set-word_form form n c.requires.fits (zeros_left copy n (ap length same)) in
    let is : IsWordText text = record { utf8 = ∣ c.utf8.text ∣₁; some = c.requires.some; fits = c.requires.fits } in
    c.in-None.ensures.no_form text is (made ∙ ap word_form (take_at copy (drop n (replicate 33 0)) n (ap length same) ∙ same))
