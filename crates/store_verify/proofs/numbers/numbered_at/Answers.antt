use Rattle.std.proofs.Common.{◌≡◌, ◌∙◌, ℕ, List, [], get_or, ap, sym}
use Rattle.page_face.specs.Number.{number}
use Rattle.btree_nodes.specs.Nodes.{rows_in}
use Rattle.btree_nodes.specs.Rows.{Row}
use Rattle.row_codec.specs.declared.counted.Counted.{Counted}
use Rattle.row_codec.specs.Counted.{IsCounted, counted_value}
use Rattle.store_tables.specs.Coded.{IsEntryOf, IsU64, row_by, number_code}
use Rattle.store_tables.specs.Holding.{numbers_form}
use Rattle.store_verify.proofs.Steps.{IfSome-map, row-copied}
use Rattle.store_verify.proofs.numbers.numbered_at.Goals as goal

pub returns-clause-form : goal.returns-clause-form
returns-clause-form c =
    let key : List ℕ = c.copy_from_slice.new.self in
    let value : List ℕ = c.copy_from_slice-2.new.self in
    let row = row-copied numbers_form c.args.page.now key value c.args.at c.requires.within (c.copy_from_slice.ensures.after ∙ c.part.ensures.is) (c.copy_from_slice-2.ensures.after ∙ c.part-2.ensures.is) in
    IfSome-map (λ (e : ℕ × Counted). IsEntryOf IsU64 IsCounted e × (number key ≡ number_code e.0) × (value ≡ counted_value e.1))
    (λ (e : ℕ × Counted). IsEntryOf IsU64 IsCounted e × (get_or (rows_in numbers_form c.args.page.now) c.args.at (0, []) ≡ row_by number_code counted_value e))
    c.numbered_of_bytes.result (λ e h. (h.0, row ∙ (λ i. (h.1 i, h.2 i)))) c.numbered_of_bytes.ensures.form

pub returns-clause-every : goal.returns-clause-every
returns-clause-every c entry is same =
    let key : List ℕ = c.copy_from_slice.new.self in
    let value : List ℕ = c.copy_from_slice-2.new.self in
    let row : (number key, value) ≡ row_by number_code counted_value entry =
    sym (row-copied numbers_form c.args.page.now key value c.args.at c.requires.within (c.copy_from_slice.ensures.after ∙ c.part.ensures.is) (c.copy_from_slice-2.ensures.after ∙ c.part-2.ensures.is)) ∙ same in
    c.numbered_of_bytes.ensures.every entry is (ap (λ (r : Row). r.0) row) (ap (λ (r : Row). r.1) row)
