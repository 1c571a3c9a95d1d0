use Rattle.std.proofs.Common.{◌≡◌, ◌+◌, ◌<◌, ◌++◌, ◌∷◌, [], map, take, length, option_copied, ap, sym, ◌∙◌, subst, arith}
use Rattle.std.proofs.lemmas.List.{take_more, map-append, length-map, length-append, length-take-le}
use Rattle.json_spelled.specs.View.{json_of, jsons_of}
use Rattle.json_spelled.proofs.Frames.{jsons_pushed}
use Rattle.geojson_points.specs.Takes.{Says, SaysEach, item_of}
use Rattle.geojson_points.proofs.Each.{says_more}
use Rattle.geojson_points.proofs.outcome.each.Goals as goal

pub loop-index-preserved : goal.loop-index-preserved
loop-index-preserved c =
    let only = option_copied c.args.only in
    let items = c.args.items.now in
    let index = c.loop-index.index in
    let item = c.index-items-index.result in
    let taken = c.loop-index.taken.items in
    let more = c.in_ok-said.field-0 in
    let inside : index < length items = omega arith in
    let front : jsons_of (take (index + 1) items) ≡ jsons_of (take index items) ++ json_of item ∷ [] =
    ap jsons_of (take_more items index item inside ∙ ap (λ x. take index items ++ x ∷ []) (sym c.index-items-index.is)) ∙ jsons_pushed (take index items) item in
    let behind : 0 + length (jsons_of (take index items)) ≡ index = omega (arith, length-map (take index items) json_of, length-take-le index items (omega arith)) in
    let now : Says only (0 + length (jsons_of (take index items))) (json_of item) (item_of more) = subst (λ n. Says only n (json_of item) (item_of more)) (sym behind) c.in_ok-said.ensures in
    let said : SaysEach only 0 (jsons_of (take index items) ++ json_of item ∷ []) (map item_of taken ++ item_of more ∷ []) = says_more only 0 (jsons_of (take index items)) (map item_of taken) (json_of item) (item_of more) c.loop-index.invariant.1 now in (
      rw c.in_ok-push.ensures.items (omega (arith, length-append taken (more ∷ []), c.loop-index.invariant.0)),
      rw c.in_ok-push.ensures.items (rw front (rw (map-append item_of taken (more ∷ [])) said)),
    )
