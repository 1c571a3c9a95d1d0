use Rattle.std.proofs.Common.{◌≡◌, ◌+◌, ◌++◌, ℕ, ◌<◌, ◌∙◌, ap, sym, subst, arith, take, length, append-nil, List, [], ◌∷◌, Err, rules}
use Rattle.std.proofs.lemmas.List.{take_more}
use Rattle.std.proofs.lemmas.List.Concat.{flat_map-append}
use Rattle.std.proofs.lemmas.Result.{err_from_is_err_and}
use Rattle.std.specs.List.{AllByRecursion, flat_map}
use Rattle.page_face.specs.FreeList.{PageMap}
use Rattle.page_face.specs.declared.fault.PageFault.TheVariants.{Damaged}
use Rattle.page_face.proofs.Frames.{reads_then}
use Rattle.btree_nodes.specs.Damages.{AreReadable, AsksOnly}
use Rattle.btree_nodes.specs.Tree.{map_uses}
use Rattle.btree_nodes.proofs.Harms.{asked-before, asks-further}
use Rattle.paged_map.specs.Maps.{AreCounted, IsMapDamaged}
use Rattle.term_impacts.specs.Form.{IsWordText}
use Rattle.node_filter.specs.Numbers.{Numbers}
use Rattle.store_tables.specs.Holding.{Holds, table_uses, texts_form}
use Rattle.store_tables.specs.declared.tables.Tables.{Tables}
use Rattle.query_execution.specs.Asked.{id_in}
use Rattle.best_first.specs.Lists.{all_append}
use Rattle.query_execution.proofs.known.numbers_of.Goals as goal

pub loop-word-preserved : goal.loop-word-preserved
loop-word-preserved g c =
    let h = c.loop-word.invariant in
    let f = h.frame in
    let old : PageMap = g.P.Pages.pages c.args.pages.now in
    let tables : Tables = c.args.tables.now in
    let words : List (List ℕ) = c.args.words.now in
    let at : ℕ = c.loop-word.word-index in
    let word : List ℕ = c.word-item.result in
    let within : at < length words = omega arith in
    let more : take (at + 1) words ≡ take at words ++ word ∷ [] = take_more words at word within ∙ ap (λ (w : List ℕ). take at words ++ w ∷ []) (sym c.word-item.is) in
    let text : IsWordText word = c.in_ok-add_number.ensures.text in
    record {
      found = λ entries holds.
          let here : c.add_number.new.list.items ≡ c.loop-word.list.items ++ id_in entries.texts word =
          subst (λ (p : PageMap). Holds p tables entries → c.add_number.new.list.items ≡ c.loop-word.list.items ++ id_in entries.texts word) f.pages (c.in_ok-add_number.ensures.found entries) holds in
          here ∙ ap (λ (ids : Numbers). ids ++ id_in entries.texts word) (h.found entries holds)
          ∙ ap (λ (ids : Numbers). flat_map (id_in entries.texts) (take at words) ++ ids) (sym (append-nil (id_in entries.texts word)))
          ∙ sym (flat_map-append (id_in entries.texts) (take at words) (word ∷ [])) ∙ ap (flat_map (id_in entries.texts)) (sym more);
      texts = subst (AllByRecursion IsWordText) (sym more) (all_append IsWordText (take at words) (word ∷ []) h.texts (text, tt));
      own = λ told.
          let still : AreReadable (g.P.Pages.pages c.loop-word.pages) (g.P.Pages.count c.loop-word.pages) = rw (f.pages, f.count) told in
          asks-further (map_uses texts_form old tables.texts) (g.P.Pages.asked c.args.pages.now) (g.P.Pages.asked c.loop-word.pages) (g.P.Pages.asked c.add_number.new.pages) (h.own told)
          (subst (λ (p : PageMap). AsksOnly (map_uses texts_form p tables.texts) (g.P.Pages.asked c.loop-word.pages) (g.P.Pages.asked c.add_number.new.pages)) f.pages (c.add_number.ensures.own still));
      frame = reads_then g.P.Pages g.met.P.Pages.goes_further g.met.P.Pages.reads_further _ _ _ f c.add_number.ensures.frame;
      faults = search rules;
    }

pub returns-in_err-add_number-clause-no_false_damage : goal.returns-in_err-add_number-clause-no_false_damage
returns-in_err-add_number-clause-no_false_damage g c = λ entries holds told counted damage.
    let f = c.loop-word.invariant.frame in
    let tables : Tables = c.args.tables.now in
    let holds' : Holds (g.P.Pages.pages c.loop-word.pages) tables entries = rw f.pages holds in
    let counted' : AreCounted (table_uses (g.P.Pages.pages c.loop-word.pages) tables) (g.P.Pages.count c.loop-word.pages) = rw (f.pages, f.count) counted in
    let still : AreReadable (g.P.Pages.pages c.loop-word.pages) (g.P.Pages.count c.loop-word.pages) = rw (f.pages, f.count) told in
    let p = err_from_is_err_and c.from_residual.result c.from_residual.ensures.1 in
    λ e. (let same : c.in_err-add_number.field-0.0 ≡ Damaged damage = cc (p.1, p.2, e) in
    c.in_err-add_number.ensures.no_false_damage entries holds' still counted' damage (ap Err same))

pub returns-in_err-add_number-clause-damaged : goal.returns-in_err-add_number-clause-damaged
returns-in_err-add_number-clause-damaged g c = λ told damage.
    let h = c.loop-word.invariant in
    let f = h.frame in
    let old : PageMap = g.P.Pages.pages c.args.pages.now in
    let root : ℕ = c.args.tables.now.texts in
    let still : AreReadable (g.P.Pages.pages c.loop-word.pages) (g.P.Pages.count c.loop-word.pages) = rw (f.pages, f.count) told in
    let p = err_from_is_err_and c.from_residual.result c.from_residual.ensures.1 in
    λ e. (let same : c.in_err-add_number.field-0.0 ≡ Damaged damage = cc (p.1, p.2, e) in
    let d = c.in_err-add_number.ensures.damaged still damage (ap Err same) in (
      subst (λ (n : ℕ). IsMapDamaged texts_form old n root damage) f.count (subst (λ (q : PageMap). IsMapDamaged texts_form q (g.P.Pages.count c.loop-word.pages) root damage) f.pages d.0),
      asked-before (map_uses texts_form old root) (g.P.Pages.asked c.args.pages.now) (g.P.Pages.asked c.loop-word.pages) (g.P.Pages.asked c.add_number.new.pages) damage.page (h.own told) d.1,
    ))

pub returns-in_err-add_number-clause-own : goal.returns-in_err-add_number-clause-own
returns-in_err-add_number-clause-own g c = λ told.
    let h = c.loop-word.invariant in
    let f = h.frame in
    let old : PageMap = g.P.Pages.pages c.args.pages.now in
    let root : ℕ = c.args.tables.now.texts in
    let still : AreReadable (g.P.Pages.pages c.loop-word.pages) (g.P.Pages.count c.loop-word.pages) = rw (f.pages, f.count) told in
    asks-further (map_uses texts_form old root) (g.P.Pages.asked c.args.pages.now) (g.P.Pages.asked c.loop-word.pages) (g.P.Pages.asked c.add_number.new.pages) (h.own told)
    (subst (λ (p : PageMap). AsksOnly (map_uses texts_form p root) (g.P.Pages.asked c.loop-word.pages) (g.P.Pages.asked c.add_number.new.pages)) f.pages (c.add_number.ensures.own still))
