use Rattle.std.proofs.Common.{◌≡◌, ◌∙◌, ℕ, List, [], get_or, ap, sym}
use Rattle.page_face.specs.Number.{number}
use Rattle.btree_nodes.specs.Nodes.{rows_in}
use Rattle.btree_nodes.specs.Rows.{Row}
use Rattle.spatial_base.specs.Key.{Name}
use Rattle.row_codec.specs.declared.stored.Stored.{Stored}
use Rattle.row_codec.specs.Stored.{place_value}
use Rattle.store_tables.specs.Coded.{IsPlaceEntry, key_code, place_row}
use Rattle.store_tables.specs.Holding.{places_form}
use Rattle.store_verify.proofs.Steps.{IfSome-map, row-copied}
use Rattle.store_verify.proofs.places.place_at.Goals as goal

pub returns-clause-form : goal.returns-clause-form
returns-clause-form c =
    let key : List ℕ = c.copy_from_slice.new.self in
    let value : List ℕ = c.copy_from_slice-2.new.self in
    let row = row-copied places_form c.args.page.now key value c.args.at c.requires.within (c.copy_from_slice.ensures.after ∙ c.part.ensures.is) (c.copy_from_slice-2.ensures.after ∙ c.part-2.ensures.is) in
    IfSome-map (λ (e : Name × Stored). IsPlaceEntry e × (number key ≡ key_code e.0) × (value ≡ place_value e.1))
    (λ (e : Name × Stored). IsPlaceEntry e × (get_or (rows_in places_form c.args.page.now) c.args.at (0, []) ≡ place_row e))
    c.place_of_bytes.result (λ e h. (h.0, row ∙ (λ i. (h.1 i, h.2 i)))) c.place_of_bytes.ensures.form

pub returns-clause-every : goal.returns-clause-every
returns-clause-every c entry is same =
    let key : List ℕ = c.copy_from_slice.new.self in
    let value : List ℕ = c.copy_from_slice-2.new.self in
    let row : (number key, value) ≡ place_row entry =
    sym (row-copied places_form c.args.page.now key value c.args.at c.requires.within (c.copy_from_slice.ensures.after ∙ c.part.ensures.is) (c.copy_from_slice-2.ensures.after ∙ c.part-2.ensures.is)) ∙ same in
    c.place_of_bytes.ensures.every entry is (ap (λ (r : Row). r.0) row) (ap (λ (r : Row). r.1) row)
