use Rattle.std.proofs.Common.{◌≡◌, ◌+◌, ◌*◌, ◌^◌, ℕ, ◌<◌, ◌∙◌, ◌||◌, Bool, ap, sym, subst, arith, slice_index, nat_lt, length, List}
use Rattle.std.proofs.lemmas.List.{take_all}
use Rattle.page_face.specs.FreeList.{PageMap}
use Rattle.btree_nodes.specs.Tree.{IsMap}
use Rattle.rtree_nodes.specs.Stock.{rows_form}
use Rattle.node_rows.specs.Rows.{bytes_in}
use Rattle.node_filter.specs.Masks.{has_slot}
use Rattle.node_filter.specs.Numbers.{byte_of}
use Rattle.node_filter.specs.Filters.{holds_by, relevance_by}
use Rattle.node_filter.proofs.Rows.{rows-none, rows-ok, rows-then, rows-refused}
use Rattle.node_filter.proofs.Weighed.{relevance-more, held-more}
use Rattle.node_filter.proofs.weighing.relevances.Goals as goal

pub loop-word-init : goal.loop-word-init
loop-word-init g c = record {
  slots = λ map i l. c.no_marks-marks.ensures.slots i;
  texts = λ map i l. c.no_marks-marks.ensures.texts i;
  small = λ i. let z = c.no_marks-marks.ensures.texts i in omega arith;
  rows = rows-none g.P.Pages c.args.tree.now.rows c.args.pages.now 0 (g.met.P.Pages.reads_nothing c.args.pages.now) (g.met.P.Pages.stays c.args.pages.now);
}

pub loop-word-preserved : goal.loop-word-preserved
loop-word-preserved g c =
    let h = c.loop-word.invariant in
    let root : ℕ = c.args.tree.now.rows in
    let n : ℕ = c.loop-word.word-index in
    let term : List ℕ × ℕ = c.loop-word-item.result in
    let within : n < length c.args.words.now = omega (arith, c.loop-word-test.true) in
    let old : PageMap = g.P.Pages.pages c.args.pages.now in
    let F : PageMap → ℕ → List ℕ → ℕ = λ p. byte_of c.args.ids.now (bytes_in p root c.args.node) in
    record {
      slots = λ map i l.
          let more : has_slot c.add_word.new.marks.slots i ≡ (has_slot c.loop-word.marks.slots i || nat_lt 0 (F old i term.0)) =
          subst (λ (p : PageMap). IsMap rows_form p root → has_slot c.add_word.new.marks.slots i ≡ (has_slot c.loop-word.marks.slots i || nat_lt 0 (F p i term.0))) h.rows.frame.pages (λ m. c.in-Ok.ensures.slots m i l) map in
          more ∙ ap (λ (b : Bool). b || nat_lt 0 (F old i term.0)) (h.slots map i l) ∙ sym (held-more (F old i) c.args.words.now n term within c.loop-word-item.is);
      texts = λ map i l.
          let small : slice_index c.loop-word.marks.texts i + 65025 < 2 ^ 32 = let s = h.small i in let k = c.requires in omega arith in
          let more : slice_index c.add_word.new.marks.texts i ≡ slice_index c.loop-word.marks.texts i + term.1 * F old i term.0 =
          subst (λ (p : PageMap). IsMap rows_form p root → slice_index c.add_word.new.marks.texts i ≡ slice_index c.loop-word.marks.texts i + term.1 * F p i term.0) h.rows.frame.pages (λ m. c.in-Ok.ensures.texts m i l small) map in
          let so_far = h.texts map i l in
          let next = relevance-more (F old i) c.args.words.now n term within c.loop-word-item.is in
          omega arith;
      small = λ i. let s = h.small i in let m = c.add_word.ensures.small i in omega arith;
      rows = rows-ok g.P.Pages root _ _ _ _ (c.in-Ok.ensures.rows.fails.hides_none ∙ h.rows.fails.hides_none) (rows-then g.P.Pages g.met.P.Pages.goes_further g.met.P.Pages.reads_further root _ _ _ _ _ h.rows.fails.hides_none h.rows c.add_word.ensures.rows);
    }

pub returns-in-Err-clause-rows : goal.returns-in-Err-clause-rows
returns-in-Err-clause-rows g c =
    rows-then g.P.Pages g.met.P.Pages.goes_further g.met.P.Pages.reads_further _ _ _ _ _ _ c.loop-word.invariant.rows.fails.hides_none c.loop-word.invariant.rows
    (rows-refused g.P.Pages c.args.tree.now.rows _ _ _ _ c.in-Err.is c.add_word.ensures.rows)

pub returns-clause-slots : goal.returns-clause-slots
returns-clause-slots g c = λ map i l.
    c.loop-word.invariant.slots map i l
    ∙ ap (holds_by (byte_of c.args.ids.now (bytes_in (g.P.Pages.pages c.args.pages.now) c.args.tree.now.rows c.args.node) i)) (take_all c.loop-word.word-index c.args.words.now (omega (arith, c.loop-word-test.false)))

pub returns-clause-texts : goal.returns-clause-texts
returns-clause-texts g c = λ map i l.
    c.loop-word.invariant.texts map i l
    ∙ ap (relevance_by (byte_of c.args.ids.now (bytes_in (g.P.Pages.pages c.args.pages.now) c.args.tree.now.rows c.args.node) i)) (take_all c.loop-word.word-index c.args.words.now (omega (arith, c.loop-word-test.false)))

pub returns-clause-rows : goal.returns-clause-rows
returns-clause-rows g c = rows-ok g.P.Pages c.args.tree.now.rows _ _ _ _ c.loop-word.invariant.rows.fails.hides_none c.loop-word.invariant.rows
