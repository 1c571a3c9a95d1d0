-- Few nodes opened for words: by one search, and by several, one after another.
use Rattle.std.proofs.Common.{◌≡◌, ℕ, List, [], ◌∷◌, ◌++◌, map, Some, ap, ◌∙◌, append_assoc, ◌⊎◌, inl, inr, ⊎_elim}
use Rattle.std.specs.List.{AllByRecursion, Contains}
use Rattle.std.proofs.lemmas.Bool.{ltb-true}
use Rattle.std.proofs.lemmas.List.Elements.{Contains-append_left, Contains-append_right}
use Rattle.spatial_base.specs.Point.{Viewpoint}
use Rattle.place_values.specs.declared.hit.Hit.{Hit}
use Rattle.place_values.specs.declared.query.Query.{Query}
use Rattle.place_values.specs.declared.query.Query.TheVariants.{Range, Nearest}
use Rattle.place_values.specs.declared.query.Expr.TheVariants.{Has}
use Rattle.rtree_nodes.specs.Slots.{Item, NodeMap}
use Rattle.best_first.specs.Lists.{all_weaker, all_append}
use Rattle.node_filter.specs.Numbers.{Numbers, impact_of}
use Rattle.boolean_queries.specs.BoundingItems.{bounding_item_at}
use Rattle.boolean_queries.specs.Logs.{CallsFor, IsChildOfAsked, IsOpened, IsFromAsked, OpensFew}
use Rattle.boolean_queries.specs.Words.{HoldsOneOf, IsOpenedForWords, OpensFewForWords}
use Rattle.boolean_queries.proofs.Histories.{all-contained as of-member}

-- a child of a node among more that were asked for
child-of-more : (nodes : NodeMap) (asked all : List ℕ) (page : ℕ) → ((n : ℕ) → Contains asked n → Contains all n) → IsChildOfAsked nodes asked page → IsChildOfAsked nodes all page
child-of-more nodes asked all page wider c = record { parent = c.parent; among = wider c.parent c.among; level_is = c.level_is; at = c.at; within = c.within; child = c.child }

-- a value of a leaf among more that were asked for
from-more : {X : Type 0} (nodes : NodeMap) (asked all : List ℕ) (gives : Item → List X) (value : X) → ((n : ℕ) → Contains asked n → Contains all n) → IsFromAsked nodes asked gives value → IsFromAsked nodes all gives value
from-more nodes asked all gives value wider f = record { leaf = f.leaf; among = wider f.leaf f.among; level_is = f.level_is; at = f.at; within = f.within; item = f.item; is = f.is; gave = f.gave }

module _ (ids : Numbers) (words : List (List ℕ)) (nodes : NodeMap) (root : ℕ) where
  -- a node that was opened among more that were asked for
  opened-more : (asked all : List ℕ) (page : ℕ) → ((n : ℕ) → Contains asked n → Contains all n) → IsOpenedForWords ids words nodes root asked page → IsOpenedForWords ids words nodes root all page
  opened-more asked all page wider o = record {
    used = o.used;
    from = ⊎_elim (λ (e : page ≡ root). inl e) (λ (c : IsChildOfAsked nodes asked page × HoldsOneOf ids words (bounding_item_at nodes page)). inr (child-of-more nodes asked all page wider c.0, c.1)) o.from;
  }

  module _ {X : Type 0} (beside : ℕ → Type 0) (gives : X → Item → List X) where
    abbrev Few : List ℕ → List ℕ → List X → Type 0
    Few old new found = OpensFewForWords beside gives ids words nodes root old new found

    -- for fewer values, or some of them twice
    pub few-fewer : (old new : List ℕ) (found some : List X) → ((value : X) → Contains some value → Contains found value) → Few old new found → AllByRecursion (Contains some) some → Few old new some
    few-fewer old new found some among few all = record {
      asked = few.asked;
      log = few.log;
      each = few.each;
      from = all_weaker (Contains some) (λ value. IsFromAsked nodes few.asked (gives value) value) (λ value c. of-member (λ one. IsFromAsked nodes few.asked (gives one) one) found value few.from (among value c)) some all;
    }

    -- one after another
    pub few-then : (old mid new : List ℕ) (found more : List X) → Few old mid found → Few mid new more → Few old new (found ++ more)
    few-then old mid new found more a b =
        let all : List ℕ = a.asked ++ b.asked in
        let Is : List ℕ → ℕ → Type 0 = λ asked page. beside page ⊎ IsOpenedForWords ids words nodes root asked page in
        let From : List ℕ → X → Type 0 = λ asked value. IsFromAsked nodes asked (gives value) value in
        let left : (n : ℕ) → Contains a.asked n → Contains all n = Contains-append_left a.asked b.asked in
        let right : (n : ℕ) → Contains b.asked n → Contains all n = Contains-append_right a.asked b.asked in
        record {
          asked = all;
          log = b.log ∙ ap (λ (l : List ℕ). l ++ b.asked) a.log ∙ append_assoc old a.asked b.asked;
          each = all_append (Is all) a.asked b.asked
              (all_weaker (Is a.asked) (Is all) (λ page h. ⊎_elim (λ (t : beside page). inl t) (λ (o : IsOpenedForWords ids words nodes root a.asked page). inr (opened-more a.asked all page left o)) h) a.asked a.each)
              (all_weaker (Is b.asked) (Is all) (λ page h. ⊎_elim (λ (t : beside page). inl t) (λ (o : IsOpenedForWords ids words nodes root b.asked page). inr (opened-more b.asked all page right o)) h) b.asked b.each);
          from = all_append (From all) found more
              (all_weaker (From a.asked) (From all) (λ value f. from-more nodes a.asked all (gives value) value left f) found a.from)
              (all_weaker (From b.asked) (From all) (λ value f. from-more nodes b.asked all (gives value) value right f) more b.from);
        }

    module _ (query : Query) (calls : (round : Item) (is_root : Type 0) (found : List Hit) → CallsFor ids query found is_root round → is_root ⊎ HoldsOneOf ids words round) where
      -- a node that the query calls for is the root, or a place below it holds one of the words
      called-for : (asked : List ℕ) (found : List Hit) (page : ℕ) → IsOpened ids query nodes root asked found page → IsOpenedForWords ids words nodes root asked page
      called-for asked found page o = record {
        used = o.used;
        from = ⊎_elim (λ (e : page ≡ root). inl e)
            (λ (child : IsChildOfAsked nodes asked page). ⊎_elim (λ (e : page ≡ root). inl e) (λ (holds : HoldsOneOf ids words (bounding_item_at nodes page)). inr (child, holds)) (calls (bounding_item_at nodes page) (page ≡ root) found o.called))
            o.from;
      }

      -- a query whose hits the values are made of
      pub few-made : (given : Item → List Hit) (make : Hit → X) → ((x : Item) (hit : Hit) → Contains (given x) hit → Contains (gives (make hit) x) (make hit)) → (old new : List ℕ) (found : List Hit)
          → OpensFew beside given ids query nodes root old new found → Few old new (map make found)
      few-made given make made old new found few =
          let Is : ℕ → Type 0 = λ page. beside page ⊎ IsOpenedForWords ids words nodes root few.asked page in
          record {
            asked = few.asked;
            log = few.log;
            each = all_weaker _ Is (λ page h. ⊎_elim (λ (t : beside page). inl t) (λ (o : IsOpened ids query nodes root few.asked found page). inr (called-for few.asked found page o)) h) few.asked few.each;
            from = each-made found few.from;
          }
        where
          each-made : (hits : List Hit) → AllByRecursion (IsFromAsked nodes few.asked given) hits → AllByRecursion (λ value. IsFromAsked nodes few.asked (gives value) value) (map make hits)
          each-made [] all = tt
          each-made (hit ∷ hits) all =
              let f = all.0 in
              (record { leaf = f.leaf; among = f.among; level_is = f.level_is; at = f.at; within = f.within; item = f.item; is = f.is; gave = made f.item hit f.gave }, each-made hits all.1)

  module _ (word : List ℕ) (among : Contains words word) where
    -- a search for a word
    pub nearest-calls : (at : Viewpoint) (k : ℕ) (round : Item) (is_root : Type 0) (found : List Hit) → CallsFor ids (Nearest at.point at.scale k (Some (Has word))) found is_root round → is_root ⊎ HoldsOneOf ids words round
    nearest-calls at k round is_root found c = inr (word, among, ltb-true 0 (impact_of ids round word) c.0)

    pub range-calls : (at : Viewpoint) (radius : ℕ) (round : Item) (is_root : Type 0) (found : List Hit) → CallsFor ids (Range at.point at.scale radius (Some (Has word))) found is_root round → is_root ⊎ HoldsOneOf ids words round
    range-calls at radius round is_root found c = ⊎_elim (λ (r : is_root). inl r) (λ h. inr (word, among, ltb-true 0 (impact_of ids round word) h.0)) c

-- pages of another kind were asked for before
pub few-behind-words : {X : Type 0} (First Then : ℕ → Type 0) (gives : X → Item → List X) (ids : Numbers) (words : List (List ℕ)) (nodes : NodeMap) (root : ℕ) (old mid new more : List ℕ) (found : List X)
    → mid ≡ old ++ more → AllByRecursion First more → OpensFewForWords Then gives ids words nodes root mid new found → OpensFewForWords (λ page. First page ⊎ Then page) gives ids words nodes root old new found
few-behind-words First Then gives ids words nodes root old mid new more found log first few =
    let all : List ℕ = more ++ few.asked in
    let Is : ℕ → Type 0 = λ page. (First page ⊎ Then page) ⊎ IsOpenedForWords ids words nodes root all page in
    let right : (n : ℕ) → Contains few.asked n → Contains all n = Contains-append_right more few.asked in
    record {
      asked = all;
      log = few.log ∙ ap (λ (l : List ℕ). l ++ few.asked) log ∙ append_assoc old more few.asked;
      each = all_append Is more few.asked (all_weaker First Is (λ page f. inl (inl f)) more first)
          (all_weaker _ Is (λ page h. ⊎_elim (λ (t : Then page). inl (inr t)) (λ (o : IsOpenedForWords ids words nodes root few.asked page). inr (opened-more ids words nodes root few.asked all page right o)) h) few.asked few.each);
      from = all_weaker _ _ (λ value f. from-more nodes few.asked all (gives value) value right f) found few.from;
    }
