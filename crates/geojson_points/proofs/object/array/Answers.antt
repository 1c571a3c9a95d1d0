use Rattle.std.proofs.Common.{◌≡◌, ap, sym, ◌∙◌, Some}
use Rattle.json_spelled.specs.View.{json_of, jsons_of}
use Rattle.geojson_points.specs.Object.{array_of}
use Rattle.geojson_points.proofs.Members.{elements_onto, json_of_list}
use Rattle.geojson_points.proofs.object.array.Goals as goal

pub returns-in-List : goal.returns-in-List
returns-in-List c =
    let items = c.in-List.items in
    let lent : Some (jsons_of c.deref.result.now) ≡ Some (jsons_of items.items) = ap (λ ts. Some (jsons_of ts)) c.deref.ensures.value in
    lent ∙ ap Some (sym (elements_onto (jsons_of items.items))) ∙ ap array_of (sym (ap json_of c.in-List.is ∙ json_of_list items))
