use Rattle.std.proofs.Common.{◌≡◌, ◌+◌, ◌++◌, ℕ, zero, suc, ◌<◌, ◌∙◌, inl, inr, ⊎_elim, ap, sym, subst, arith, take, length, map, List, [], ◌∷◌, Err, rules}
use Rattle.std.proofs.lemmas.List.{map-append, take_more}
use Rattle.std.proofs.lemmas.List.Elements.{All-append}
use Rattle.std.specs.Prelude.{All}
use Rattle.page_face.specs.FreeList.{PageMap}
use Rattle.page_face.specs.declared.fault.PageFault.TheVariants.{Damaged}
use Rattle.page_face.proofs.Frames.{reads_then}
use Rattle.btree_nodes.specs.Damages.{AreReadable, AsksOnly}
use Rattle.btree_nodes.specs.Tree.{map_uses}
use Rattle.btree_nodes.proofs.Harms.{asked-before, asks-further}
use Rattle.paged_map.specs.Maps.{AreCounted}
use Rattle.place_values.specs.Query.{IsWeight}
use Rattle.place_values.specs.Rarity.{rarity}
use Rattle.store_tables.specs.Holding.{Holds, numbers_form, table_uses}
use Rattle.store_tables.specs.declared.tables.Tables.{Tables}
use Rattle.store_tables.proofs.LookupLemmas.{number-broken-later}
use Rattle.query_execution.specs.Damages.{IsCountHarm}
use Rattle.query_execution.specs.Holders.{places_of_word, weighed_by_tables}
use Rattle.query_execution.proofs.weighing.weights_of.Goals as goal

-- of the only one
all-one : (P : List ℕ × ℕ → Type 0) (x : List ℕ × ℕ) → P x → All P (x ∷ [])
all-one P x p zero d below = p
all-one P x p (suc k) d below = absurd (omega (arith, below))

pub loop-word-preserved : goal.loop-word-preserved
loop-word-preserved g c =
    let h = c.loop-word.invariant in
    let f = h.frame in
    let old : PageMap = g.P.Pages.pages c.args.pages.now in
    let tables : Tables = c.args.tables.now in
    let words : List (List ℕ) = c.args.words.now in
    let at : ℕ = c.loop-word.word-index in
    let word : List ℕ = c.word-item.result in
    let within : at < length words = omega arith in
    let more : take (at + 1) words ≡ take at words ++ word ∷ [] = take_more words at word within ∙ ap (λ (w : List ℕ). take at words ++ w ∷ []) (sym c.word-item.is) in
    let root : ℕ = tables.numbers in
    record {
      words = ap (map (λ (term : List ℕ × ℕ). term.0)) c.in-Ok-push.ensures.items
          ∙ map-append (λ (term : List ℕ × ℕ). term.0) c.loop-word.weights.items ((word, c.in-Ok.weight) ∷ [])
          ∙ ap (λ (ws : List (List ℕ)). ws ++ word ∷ []) h.words ∙ sym more;
      weights = subst (All IsWeight) (sym c.in-Ok-push.ensures.items)
          (All-append IsWeight c.loop-word.weights.items ((word, c.in-Ok.weight) ∷ []) h.weights (all-one IsWeight (word, c.in-Ok.weight) c.in-Ok.ensures.weight));
      weighed = λ entries holds known.
          let holds' : Holds (g.P.Pages.pages c.loop-word.pages) tables entries = rw f.pages holds in
          let own = c.in-Ok.ensures.weighed entries holds' (known word (at, within, sym c.word-item.is)) in
          let term : List ℕ → List ℕ × ℕ = λ w. (w, rarity c.args.live (places_of_word entries w)) in
          c.in-Ok-push.ensures.items
          ∙ ap (λ (ws : List (List ℕ × ℕ)). ws ++ (word, c.in-Ok.weight) ∷ []) (h.weighed entries holds known)
          ∙ ap (λ (w : ℕ). weighed_by_tables entries c.args.live (take at words) ++ (word, w) ∷ []) own
          ∙ sym (map-append term (take at words) (word ∷ [])) ∙ ap (map term) (sym more);
      own = λ told.
          let still : AreReadable (g.P.Pages.pages c.loop-word.pages) (g.P.Pages.count c.loop-word.pages) = rw (f.pages, f.count) told in
          asks-further (map_uses numbers_form old root) (g.P.Pages.asked c.args.pages.now) (g.P.Pages.asked c.loop-word.pages) (g.P.Pages.asked c.weight_of.new.pages) (h.own told)
          (subst (λ (p : PageMap). AsksOnly (map_uses numbers_form p root) (g.P.Pages.asked c.loop-word.pages) (g.P.Pages.asked c.weight_of.new.pages)) f.pages (c.weight_of.ensures.own still));
      frame = reads_then g.P.Pages g.met.P.Pages.goes_further g.met.P.Pages.reads_further _ _ _ f c.weight_of.ensures.frame;
      faults = search rules;
    }

pub returns-in-Err-clause-no_false_damage : goal.returns-in-Err-clause-no_false_damage
returns-in-Err-clause-no_false_damage g c = λ entries holds known few told counted damage.
    let f = c.loop-word.invariant.frame in
    let tables : Tables = c.args.tables.now in
    let within : c.loop-word.word-index < length c.args.words.now = omega arith in
    let holds' : Holds (g.P.Pages.pages c.loop-word.pages) tables entries = rw f.pages holds in
    let counted' : AreCounted (table_uses (g.P.Pages.pages c.loop-word.pages) tables) (g.P.Pages.count c.loop-word.pages) = rw (f.pages, f.count) counted in
    let still : AreReadable (g.P.Pages.pages c.loop-word.pages) (g.P.Pages.count c.loop-word.pages) = rw (f.pages, f.count) told in
    λ e. (let same : c.in-Err.fault ≡ Damaged damage = cc e in
    c.in-Err.ensures.no_false_damage entries holds' (known c.word-item.result (c.loop-word.word-index, within, sym c.word-item.is)) (few c.word-item.result) still counted' damage (ap Err same))

pub returns-in-Err-clause-own : goal.returns-in-Err-clause-own
returns-in-Err-clause-own g c = λ told.
    let h = c.loop-word.invariant in
    let f = h.frame in
    let old : PageMap = g.P.Pages.pages c.args.pages.now in
    let root : ℕ = c.args.tables.now.numbers in
    let still : AreReadable (g.P.Pages.pages c.loop-word.pages) (g.P.Pages.count c.loop-word.pages) = rw (f.pages, f.count) told in
    asks-further (map_uses numbers_form old root) (g.P.Pages.asked c.args.pages.now) (g.P.Pages.asked c.loop-word.pages) (g.P.Pages.asked c.weight_of.new.pages) (h.own told)
    (subst (λ (p : PageMap). AsksOnly (map_uses numbers_form p root) (g.P.Pages.asked c.loop-word.pages) (g.P.Pages.asked c.weight_of.new.pages)) f.pages (c.weight_of.ensures.own still))

pub returns-in-Err-push-clause-own : goal.returns-in-Err-push-clause-own
returns-in-Err-push-clause-own g c = λ told.
    let h = c.loop-word.invariant in
    let f = h.frame in
    let old : PageMap = g.P.Pages.pages c.args.pages.now in
    let root : ℕ = c.args.tables.now.numbers in
    let still : AreReadable (g.P.Pages.pages c.loop-word.pages) (g.P.Pages.count c.loop-word.pages) = rw (f.pages, f.count) told in
    asks-further (map_uses numbers_form old root) (g.P.Pages.asked c.args.pages.now) (g.P.Pages.asked c.loop-word.pages) (g.P.Pages.asked c.weight_of.new.pages) (h.own told)
    (subst (λ (p : PageMap). AsksOnly (map_uses numbers_form p root) (g.P.Pages.asked c.loop-word.pages) (g.P.Pages.asked c.weight_of.new.pages)) f.pages (c.weight_of.ensures.own still))

-- a number that is damaged behind others is so behind what came before them
pub returns-in-Err-clause-damaged : goal.returns-in-Err-clause-damaged
returns-in-Err-clause-damaged g c = λ told damage is.
    let h = c.loop-word.invariant in
    let f = h.frame in
    let old : PageMap = g.P.Pages.pages c.args.pages.now in
    let count : ℕ = g.P.Pages.count c.args.pages.now in
    let root : ℕ = c.args.tables.now.numbers in
    let mine = map_uses numbers_form old root in
    let first : List ℕ = g.P.Pages.asked c.args.pages.now in
    let middle : List ℕ = g.P.Pages.asked c.loop-word.pages in
    let after : List ℕ = g.P.Pages.asked c.weight_of.new.pages in
    let still : AreReadable (g.P.Pages.pages c.loop-word.pages) (g.P.Pages.count c.loop-word.pages) = rw (f.pages, f.count) told in
    let same : c.in-Err.fault ≡ Damaged damage = cc is in
    let found : IsCountHarm old count c.args.live c.args.tables.now middle after damage =
    subst (λ (p : PageMap). IsCountHarm p count c.args.live c.args.tables.now middle after damage) f.pages
    (subst (λ (n : ℕ). IsCountHarm (g.P.Pages.pages c.loop-word.pages) n c.args.live c.args.tables.now middle after damage) f.count (c.in-Err.ensures.damaged still damage (ap Err same))) in
    ⊎_elim
    (λ number. inl (
      number.0,
      ⊎_elim
          (λ map. inl (map.0, asked-before mine first middle after damage.page (h.own told) map.1))
          (λ row. inr (row.0, row.1, number-broken-later mine old root first middle after (number.0, row.1) damage.page (h.own told) row.2))
          number.1,
    ))
    (λ over. inr over)
    found
