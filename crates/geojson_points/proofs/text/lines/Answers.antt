use Rattle.std.proofs.Common.{◌≡◌, ℕ, List, [], ◌∷◌, ap, sym, ◌∙◌, Bor, string_bytes}
use Rattle.std.specs.List.{join_by, join_with_byte}
use Rattle.std.proofs.lemmas.Result.{IfOk-weaker}
use Rattle.json_spelled.specs.Json.{no_members, members_onto}
use Rattle.json_spelled.specs.View.{json_of, entries_of}
use Rattle.geojson_points.specs.Object.{lines_of, strings_of}
use Rattle.geojson_points.proofs.Members.{json_of_members}
use Rattle.geojson_points.proofs.Gathering.{joined}
use Rattle.geojson_points.proofs.text.lines.Goals as goal

pub returns-in_ok-strings-in-Members : goal.returns-in_ok-strings-in-Members
returns-in_ok-strings-in-Members c =
    let is_text : join_by (λ (b : Bor (List ℕ)). b.now) (10 ∷ []) c.deref-in-Members.result.now ≡ lines_of (json_of c.args.properties.now) =
    ap (join_by (λ (b : Bor (List ℕ)). b.now) (10 ∷ [])) c.deref-in-Members.ensures.value ∙ joined c.in_ok-strings-in-Members.field-0.items
    ∙ ap (join_with_byte 10) c.in_ok-strings-in-Members.ensures
    ∙ ap (λ members. join_with_byte 10 (strings_of (members_onto (entries_of members) no_members))) c.deref.ensures.value
    ∙ ap lines_of (sym (ap json_of c.in-Members.is ∙ json_of_members c.in-Members.members)) in
    IfOk-weaker c.join.result (λ text. string_bytes text ≡ join_by (λ (b : Bor (List ℕ)). b.now) (10 ∷ []) c.deref-in-Members.result.now)
    (λ text. string_bytes text ≡ lines_of (json_of c.args.properties.now)) (λ text e. e ∙ is_text) c.join.ensures.ok
