-- The laws that a sink keeps: gains add up, and rows that are those of entries break no rule.
use Rattle.std.specs.Prelude.{◌≢◌, ℕ, List, [], ◌++◌, map, All, get_or}
use Rattle.std.proofs.Common.{refl, sym, subst, ap, ◌∙◌, append_assoc}
use Rattle.std.proofs.lemmas.List.{append-nil, map-append}
use Rattle.std.proofs.lemmas.List.Elements.{All-append, All-contains, All-map, All-nil}
use Rattle.page_face.specs.declared.fault.Rule.{Rule}
use Rattle.btree_nodes.specs.declared.form.Form.{Form}
use Rattle.btree_nodes.specs.Nodes.{rows_in}
use Rattle.btree_nodes.specs.Rows.{Row}
use Rattle.store_tables.specs.Coded.{IsEntryOf, row_by}
use Rattle.store_verify.specs.Breaks.{BreaksRow}
use Rattle.store_verify.specs.Gains.{AreRowsOf, Gains}

module _ {K V : Type 0} (code : K → ℕ) (value : V → List ℕ) (IsKey : K → Type 0) (IsValue : V → Type 0) where
  -- no row gains nothing
  pub gains-none : (old : List (K × V)) → Gains code value IsKey IsValue [] old old
  gains-none old = record { more = []; are = refl; each = All-nil (IsEntryOf IsKey IsValue); is = sym (append-nil old) }

  -- rows after others gain after them
  pub gains-more : (rows more : List Row) (a b c : List (K × V)) → Gains code value IsKey IsValue rows a b → Gains code value IsKey IsValue more b c → Gains code value IsKey IsValue (rows ++ more) a c
  gains-more rows more a b c first then = record {
    more = first.more ++ then.more;
    are = ap (λ (r : List Row). r ++ more) first.are ∙ ap (λ (r : List Row). map (row_by code value) first.more ++ r) then.are ∙ sym (map-append (row_by code value) first.more then.more);
    each = All-append (IsEntryOf IsKey IsValue) first.more then.more first.each then.each;
    is = then.is ∙ ap (λ (xs : List (K × V)). xs ++ then.more) first.is ∙ append_assoc a first.more then.more;
  }

  -- a row isn't said to be no entry's
  abbrev pub Good : Row → Type 0
  Good row = ((e : K × V) → IsEntryOf IsKey IsValue e → row ≢ row_by code value e) → ⊥

  -- rows of entries are none that aren't
  pub good-all : (entries : List (K × V)) → All (IsEntryOf IsKey IsValue) entries → All (λ (e : K × V). Good (row_by code value e)) entries
  good-all entries each k d inside bad = bad (get_or entries k d) (each k d inside) refl

  -- a leaf whose rows are those of entries has no row that is no entry's
  pub rows-apart : (form : Form) (rule : Rule) (page : List ℕ) → BreaksRow form code value IsKey IsValue rule page → AreRowsOf code value IsKey IsValue (rows_in form page) → ⊥
  rows-apart form rule page breaks good =
      All-contains Good (rows_in form page) breaks.1.row (subst (All Good) (sym good.are) (All-map Good (row_by code value) good.entries (good-all good.entries good.each))) breaks.1.there breaks.1.bad
