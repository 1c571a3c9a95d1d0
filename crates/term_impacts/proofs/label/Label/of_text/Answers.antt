use Rattle.std.proofs.Common.{◌≡◌, ◌≢◌, ℕ, List, All, take, sym, subst, ap, ◌∙◌, arith}
use Rattle.std.proofs.lemmas.Str.{IsUtf8-take}
use Rattle.std.specs.Str.{IsUtf8}
use Rattle.term_impacts.specs.Label.{first_line}
use Rattle.term_impacts.proofs.LabelLemmas.{IsCut, label_is_cut, one_line_cut}
use Rattle.term_impacts.proofs.label.Label.of_text.Goals as goal

pub sealed-requires : goal.sealed-requires
sealed-requires c =
    let at : ℕ = c.floor_char_boundary.result in
    let front = c.split_at.ensures.front in
    let line : c.first_line-line.result.now ≡ first_line c.args.text.now = c.first_line-line.ensures in
    record {
      utf8 = ∣ subst IsUtf8 (sym front) (IsUtf8-take c.first_line-line.result.now at c.first_line-line.utf8 c.floor_char_boundary.ensures.boundary) ∣₁;
      fits = omega (arith, c.split_at.ensures.front_len, c.floor_char_boundary.ensures.bound);
      one_line = subst (λ (l : List ℕ). All (λ byte. byte ≢ 10) l) (sym (front ∙ ap (λ l. take at l) line)) (one_line_cut c.args.text.now at);
    }

pub returns-clause-label : goal.returns-clause-label
returns-clause-label c =
    let at : ℕ = c.floor_char_boundary.result in
    let line : c.first_line-line.result.now ≡ first_line c.args.text.now = c.first_line-line.ensures in
    let floor = c.floor_char_boundary.ensures in
    let cut : IsCut c.first_line-line.result.now 63 at = record { bound = floor.bound; boundary = floor.boundary; nearest = floor.nearest } in
    c.sealed.ensures
    ∙ c.split_at.ensures.front
    ∙ ap (λ l. take at l) line
    ∙ label_is_cut c.args.text.now at (subst IsUtf8 line c.first_line-line.utf8) (subst (λ l. IsCut l 63 at) line cut)
