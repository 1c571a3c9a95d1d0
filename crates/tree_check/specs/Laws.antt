-- The laws that a search among rows keeps: it finds among rows and more rows what it finds among the first, or else among the others.
use Rattle.std.specs.Prelude.{ℕ, List, [], ◌++◌, Option, Some, None}
use Rattle.std.specs.BTreeSet.{BTreeSet}
use Rattle.std.proofs.Common.{refl, sym, ◌∙◌, subst}
use Rattle.std.proofs.lemmas.List.Elements.{All-append, All-nil, Contains-append_left, Contains-append_right}
use Rattle.page_walks.specs.Met.{held}
use Rattle.btree_nodes.specs.Rows.{Row}
use Rattle.node_rows.specs.Rows.{key_of}
use Rattle.node_rows.specs.declared.key.RowKey.{RowKey}
use Rattle.tree_check.specs.Names.{IsFound, IsFoundAfter, IsNamed, Seeks}

-- among no rows nothing is found
found-none : (nodes : ℕ → ℕ) (before : Option RowKey) → IsFoundAfter [] nodes before before
found-none nodes None = All-nil (λ (row : Row). IsNamed nodes row.0 row.1)
found-none nodes (Some key) = refl

found-more : (rows more : List Row) (nodes : ℕ → ℕ) (a b c : Option RowKey) → IsFoundAfter rows nodes a b → IsFoundAfter more nodes b c → IsFoundAfter (rows ++ more) nodes a c
found-more rows more nodes (Some key) b c first then = subst (λ (o : Option RowKey). IsFoundAfter more nodes o c) first then
found-more rows more nodes None None None first then = All-append (λ (row : Row). IsNamed nodes row.0 row.1) rows more first then
found-more rows more nodes None None (Some key) first then = record {
  small = then.small;
  value = then.value;
  held = Contains-append_right rows more (key_of key.node key.number, then.value) then.held;
  wrong = then.wrong;
}
found-more rows more nodes None (Some key) c first then = subst (IsFound (rows ++ more) nodes) (sym then) (record {
  small = first.small;
  value = first.value;
  held = Contains-append_left rows more (key_of key.node key.number, first.value) first.held;
  wrong = first.wrong;
})

-- no row changes nothing
pub seeks-none : (nodes : BTreeSet ℕ) (before : Option RowKey) → Seeks [] nodes nodes before before
seeks-none nodes before = record { same = refl; found = found-none (held nodes) before }

-- a search that goes on goes over both
pub seeks-more : (rows more : List Row) (n n' n'' : BTreeSet ℕ) (a b c : Option RowKey) → Seeks rows n n' a b → Seeks more n' n'' b c → Seeks (rows ++ more) n n'' a c
seeks-more rows more n n' n'' a b c first then = record {
  same = then.same ∙ first.same;
  found = found-more rows more (held n) a b c first.found (subst (λ (m : BTreeSet ℕ). IsFoundAfter more (held m) b c) first.same then.found);
}
