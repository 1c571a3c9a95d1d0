-- Few nodes opened, behind pages of another kind.
use Rattle.std.proofs.Common.{◌≡◌, ℕ, List, ◌++◌, ap, ◌∙◌, append_assoc, ◌⊎◌, inl, inr, ⊎_elim}
use Rattle.std.specs.List.{AllByRecursion}
use Rattle.std.proofs.lemmas.List.Elements.{Contains-append_right}
use Rattle.place_values.specs.declared.hit.Hit.{Hit}
use Rattle.place_values.specs.declared.query.Query.{Query}
use Rattle.rtree_nodes.specs.Slots.{Item, NodeMap}
use Rattle.best_first.specs.Lists.{all_weaker, all_append}
use Rattle.node_filter.specs.Numbers.{Numbers}
use Rattle.boolean_queries.specs.Logs.{IsChildOfAsked, IsOpened, IsFromAsked, OpensFew}

module _ (gives : Item → List Hit) (ids : Numbers) (query : Query) (nodes : NodeMap) (root : ℕ) (found : List Hit) (more asked : List ℕ) where
  opened-later : (page : ℕ) → IsOpened ids query nodes root asked found page → IsOpened ids query nodes root (more ++ asked) found page
  opened-later page o = record {
    used = o.used;
    from = ⊎_elim (λ (e : page ≡ root). inl e)
        (λ (c : IsChildOfAsked nodes asked page). inr (record { parent = c.parent; among = Contains-append_right more asked c.parent c.among; level_is = c.level_is; at = c.at; within = c.within; child = c.child }))
        o.from;
    called = o.called;
  }

  found-later : (hit : Hit) → IsFromAsked nodes asked gives hit → IsFromAsked nodes (more ++ asked) gives hit
  found-later hit f = record { leaf = f.leaf; among = Contains-append_right more asked f.leaf f.among; level_is = f.level_is; at = f.at; within = f.within; item = f.item; is = f.is; gave = f.gave }

-- pages of the one kind were asked for, and then those and nodes
pub few-behind : (First Then : ℕ → Type 0) (gives : Item → List Hit) (ids : Numbers) (query : Query) (nodes : NodeMap) (root : ℕ) (old mid new more : List ℕ) (found : List Hit)
    → mid ≡ old ++ more → AllByRecursion First more → OpensFew Then gives ids query nodes root mid new found → OpensFew (λ page. First page ⊎ Then page) gives ids query nodes root old new found
few-behind First Then gives ids query nodes root old mid new more found log first few = record {
  asked = more ++ few.asked;
  log = few.log ∙ ap (λ (l : List ℕ). l ++ few.asked) log ∙ append_assoc old more few.asked;
  each = all_append (λ page. (First page ⊎ Then page) ⊎ IsOpened ids query nodes root (more ++ few.asked) found page) more few.asked
      (all_weaker First (λ page. (First page ⊎ Then page) ⊎ IsOpened ids query nodes root (more ++ few.asked) found page) (λ page f. inl (inl f)) more first)
      (all_weaker (λ page. Then page ⊎ IsOpened ids query nodes root few.asked found page) (λ page. (First page ⊎ Then page) ⊎ IsOpened ids query nodes root (more ++ few.asked) found page)
      (λ page h. ⊎_elim (λ (t : Then page). inl (inr t)) (λ (o : IsOpened ids query nodes root few.asked found page). inr (opened-later gives ids query nodes root found more few.asked page o)) h) few.asked few.each);
  from = all_weaker (IsFromAsked nodes few.asked gives) (IsFromAsked nodes (more ++ few.asked) gives) (found-later gives ids query nodes root found more few.asked) found few.from;
}
