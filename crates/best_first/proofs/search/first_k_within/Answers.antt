use Rattle.std.proofs.Common.{◌∙◌, ap, ◌≡◌, ◌++◌, ℕ, List, Err, sym, subst, ⊎_elim, IsPermutation, Vec, Global, rules}
use Rattle.std.specs.BinaryHeap.{heap_items}
use Rattle.std.specs.List.{AllByRecursion}
use Rattle.std.proofs.lemmas.Result.{err_from_is_err_and}
use Rattle.page_face.specs.FreeList.{PageMap}
use Rattle.page_face.proofs.Frames.{reads_then}
use Rattle.btree_nodes.specs.Damages.{AskedSince}
use Rattle.btree_nodes.proofs.Walks.{same-fault}
use Rattle.place_values.specs.declared.hit.Hit.{Hit}
use Rattle.best_first.specs.Items.{places_of, OfNode, IsGivenAt}
use Rattle.best_first.specs.Queue.{item_of, waiting}
use Rattle.best_first.specs.Cuts.{affordable, most_of}
use Rattle.best_first.specs.Lists.{all_parts, all_moved}
use Rattle.best_first.proofs.CostLaws.{IsMost, most_last}
use Rattle.best_first.proofs.Firsts.{kept_ranked, kept_short}
use Rattle.best_first.proofs.Steps.{started, node_next, none_waits, enough, past_limit, node_smaller}
use Rattle.best_first.proofs.Insides.{first_inside, next_inside, opened_inside}
use Rattle.best_first.specs.Logs.{asks_of, asked_sooner}
use Rattle.best_first.proofs.Levels.{led_begun, led_opened, led_off}
use Rattle.best_first.proofs.Histories.{begun, opened, ended}
use Rattle.best_first.proofs.search.first_k_within.Goals as goal

pub search-init : goal.search-init
search-init g c =
    let opens = g.R.Ranked.opens c.args.ranked.now c.args.pages.now in
    let items = c.deref.result.now in
    let value = c.deref.ensures.value in
    let given = c.in_ok-items.ensures in
    let sorted = c.in_ok-sort_in.ensures in
    record {
      opens = c.start.ensures.same_opens;
      told = c.start.ensures.same_told;
      stays = c.start.ensures.same_tree;
      inside = λ f. first_inside (OfNode (g.R.Ranked.has_node c.args.ranked.now c.args.pages.now)) items _ _ c.new-queue.ensures sorted.queue
          (subst (AllByRecursion (OfNode (g.R.Ranked.has_node c.args.ranked.now c.args.pages.now))) (sym (value ∙ given.gives f)) (g.met.R.Ranked.starts_in c.args.ranked.now c.args.pages.now f));
      nodes = c.start.ensures.same_nodes;
      held = given.held ∙ c.requires;
      fits = c.start.ensures.fits;
      harms = c.start.ensures.same_harms;
      frame = c.start.ensures.frame;
      faults = search rules;
      ranked = kept_ranked c.args.k (c.new-found.result.items ++ affordable c.args.limit (places_of items)) _ sorted.found;
      short = kept_short c.args.k (c.new-found.result.items ++ affordable c.args.limit (places_of items)) _ sorted.found;
      search = λ f. started opens (g.R.Ranked.starts c.args.ranked.now c.args.pages.now) items c.args.limit c.args.k _ _ c.new-found.result.items _ c.new-queue.ensures c.new-found.ensures.items (value ∙ given.gives f) sorted.queue sorted.found (g.met.R.Ranked.starts_bounded c.args.ranked.now c.args.pages.now f);
      history = λ w. begun _ _ _ _ _ _ _ items _ _ c.new-found.result.items _ _ _ c.args.limit c.args.k c.new-queue.ensures c.new-found.ensures.items sorted.queue sorted.found (rw value given.alone) (λ f. value ∙ given.gives f) (c.start.ensures.asks w) (λ f. rw value (given.asks_given f));
      led = λ w. led_begun g.R.Ranked.stands g.R.Ranked.has_level (g.P.Pages.pages c.args.pages.now) _ _ items _ _ c.new-queue.ensures sorted.queue (rw value (given.levels w));
    }

pub search-smaller : goal.search-smaller
search-smaller g c =
    let value = c.deref-in-Some-3.ensures.value in
    node_smaller c.in-Some.node.page c.in-Some.node.level c.in-Some.node.bound c.deref-in-Some-3.result.now _ _ _ c.in-Some.ensures.some (rw value c.in_ok-items-2.ensures.few) (rw value c.in_ok-items-2.ensures.children) c.in_ok-sort_in-2.ensures.queue

pub search-preserved : goal.search-preserved
search-preserved g c =
    let opens = g.R.Ranked.opens c.args.ranked.now c.args.pages.now in
    let kept = c.search.invariant in
    let items = c.deref-in-Some-3.result.now in
    let value = c.deref-in-Some-3.ensures.value in
    let node = c.in-Some.node in
    let given = c.in_ok-items-2.ensures in
    let sorted = c.in_ok-sort_in-2.ensures in
    let has = g.R.Ranked.has_node c.args.ranked.now c.args.pages.now in
    let waits : (f : g.R.Ranked.fits c.args.ranked.now c.args.pages.now) → OfNode has (item_of node) × AllByRecursion (OfNode has) (waiting (heap_items c.next.new.self.heap)) =
    λ f. next_inside (OfNode has) (item_of node) _ _ c.in-Some.ensures.some (kept.inside f) in
    let gave = given.gives in
    let gives : g.R.Ranked.fits c.args.ranked.now c.args.pages.now → gave.all ≡ opens node.page node.level =
    λ f. gave.is (kept.fits f, kept.stays node.page node.level (waits f).0) ∙ ap (λ o. o node.page node.level) kept.opens in
    let parts : IsPermutation gave.all (items ++ gave.cut.out) = rw value gave.cut.parts in
    let most : IsMost c.args.limit c.args.k c.search.found.items c.most_asked-most.result =
    subst (IsMost c.args.limit c.args.k c.search.found.items) (sym c.most_asked-most.ensures)
    (subst (λ (l : List Hit). IsMost c.args.limit c.args.k c.search.found.items (most_of c.args.limit c.args.k l)) (sym c.deref-in-Some-2.ensures.value) (most_last c.args.limit c.args.k c.search.found.items kept.ranked kept.short)) in
    let few = rw c.deref-in-Some.ensures.value at (c.is_settled.ensures.unsettled c.if-is_settled.false) in
    let pages : PageMap = g.P.Pages.pages c.args.pages.now in
    let stood : AllByRecursion (g.R.Ranked.stands (pages node.page) node.level) items = rw value (rw (← kept.frame.pages) given.stand) in
    let children : AllByRecursion (IsGivenAt node.level) items = rw value given.children in
    let all_stood : AllByRecursion (g.R.Ranked.stands (pages node.page) node.level) gave.all = subst (λ (p : PageMap). AllByRecursion (g.R.Ranked.stands (p node.page) node.level) gave.all) kept.frame.pages gave.stood in
    let inside : (f : g.R.Ranked.fits c.args.ranked.now c.args.pages.now) → AllByRecursion (OfNode has) items =
    λ f. (all_parts (OfNode has) items gave.cut.out (all_moved (OfNode has) gave.all (items ++ gave.cut.out) parts (subst (AllByRecursion (OfNode has)) (sym (gives f)) (g.met.R.Ranked.opens_in c.args.ranked.now c.args.pages.now node.page node.level f (waits f).0)))).0 in
    record {
      opens = c.open.ensures.same_opens ∙ kept.opens;
      told = λ w. c.open.ensures.same_told (kept.told w);
      stays = λ page level h. c.open.ensures.same_tree page level (kept.stays page level h);
      inside = λ f. opened_inside (OfNode has) items _ _ sorted.queue (inside f) (waits f).1;
      nodes = λ page n. c.open.ensures.same_nodes page (kept.nodes page n);
      held = given.held ∙ kept.held;
      fits = λ f. c.open.ensures.fits (kept.fits f);
      harms = λ old new damage h. kept.harms old new damage (c.open.ensures.same_harms old new damage h);
      frame = reads_then g.P.Pages g.met.P.Pages.goes_further g.met.P.Pages.reads_further _ _ _ kept.frame c.open.ensures.frame;
      faults = search rules;
      ranked = kept_ranked c.args.k (c.search.found.items ++ affordable c.args.limit (places_of items)) _ sorted.found;
      short = kept_short c.args.k (c.search.found.items ++ affordable c.args.limit (places_of items)) _ sorted.found;
      search = λ f. node_next opens _ c.args.limit c.args.k node.page node.level node.bound gave.all items gave.cut.out _ _ _ c.most_asked-most.result c.search.found.items _ (kept.search f) c.in-Some.ensures.some (gives f) gave.children parts gave.cut.over most kept.ranked kept.short sorted.queue sorted.found;
      history = λ w. opened _ _ _ _ opens _ _ _ _ _ c.args.limit c.args.k node.page node.level node.bound gave.all items gave.cut.out _ _ _ c.search.found.items _ _ few c.in-Some.ensures.some sorted.queue sorted.found (asks_of (g.R.Ranked.is_node c.search.ranked c.search.pages) (g.R.Ranked.is_node c.args.ranked.now c.args.pages.now) _ _ _ kept.nodes (c.open.ensures.asks (kept.told w))) (given.asked (kept.told w)) all_stood gave.children gives parts kept.search (kept.history w);
      led = λ w.
          let log = (kept.history w).told.log in
          let since = subst (λ (l : List ℕ). AskedSince l (g.P.Pages.asked c.open.new.pages) node.page) log.log (given.asked (kept.told w)) in
          let has : g.R.Ranked.has_level (pages node.page) node.level = subst (λ (p : PageMap). g.R.Ranked.has_level (p node.page) node.level) kept.frame.pages (given.level (kept.told w)) in
          led_opened g.R.Ranked.stands g.R.Ranked.has_level pages _ _ _ _ _ node.page node.level node.bound items _ _ _ (c.open.ensures.asks (kept.told w)) (asked_sooner _ log.more _ node.page since) has c.in-Some.ensures.some sorted.queue stood children (kept.led w);
    }

pub returns-then-is_over-clause-found : goal.returns-then-is_over-clause-found
returns-then-is_over-clause-found g c = λ f. past_limit (g.R.Ranked.opens c.args.ranked.now c.args.pages.now) _ c.args.limit c.args.k c.in-Some.node.page c.in-Some.node.level c.in-Some.node.bound _ _ c.search.found.items (c.search.invariant.search f) c.in-Some.ensures.some c.search.invariant.ranked c.search.invariant.short (sym c.is_over.ensures ∙ c.if-is_over.true)

pub returns-then-is_over-clause-opened : goal.returns-then-is_over-clause-opened
returns-then-is_over-clause-opened g c = λ w. ended _ _ _ _ _ _ _ _ _ _ _ _ c.search.invariant.ranked (c.search.invariant.history w)

pub returns-then-is_settled-clause-found : goal.returns-then-is_settled-clause-found
returns-then-is_settled-clause-found g c = λ f. enough (g.R.Ranked.opens c.args.ranked.now c.args.pages.now) _ c.args.limit c.args.k c.in-Some.node.page c.in-Some.node.level c.in-Some.node.bound _ _ c.search.found.items (c.search.invariant.search f) c.in-Some.ensures.some c.search.invariant.ranked c.search.invariant.short (rw c.deref-in-Some.ensures.value at (c.is_settled.ensures.settled c.if-is_settled.true))

pub returns-then-is_settled-clause-opened : goal.returns-then-is_settled-clause-opened
returns-then-is_settled-clause-opened g c = λ w. ended _ _ _ _ _ _ _ _ _ _ _ _ c.search.invariant.ranked (c.search.invariant.history w)

pub returns-clause-found : goal.returns-clause-found
returns-clause-found g c = λ f. none_waits (g.R.Ranked.opens c.args.ranked.now c.args.pages.now) _ c.args.limit c.args.k c.search.found.items _ c.in_default.ensures.none (c.search.invariant.search f) c.search.invariant.ranked c.search.invariant.short

pub returns-clause-opened : goal.returns-clause-opened
returns-clause-opened g c = λ w. ended _ _ _ _ _ _ _ _ _ _ _ _ c.search.invariant.ranked (c.search.invariant.history w)

pub returns-in_err-sort_in-2-clause-frame : goal.returns-in_err-sort_in-2-clause-frame
returns-in_err-sort_in-2-clause-frame g c = reads_then g.P.Pages g.met.P.Pages.goes_further g.met.P.Pages.reads_further _ _ _ c.search.invariant.frame c.open.ensures.frame

pub returns-in_err-items-2-clause-damaged : goal.returns-in_err-items-2-clause-damaged
returns-in_err-items-2-clause-damaged g c =
    let passed = err_from_is_err_and c.from_residual-in_err-items-2.result c.from_residual-in_err-items-2.ensures.1 in
    rw (passed.1, passed.2) (λ w damage e.
    let kept = c.search.invariant in
    let node = c.in-Some.node in
    let old : List ℕ = g.P.Pages.asked c.args.pages.now in
    let new : List ℕ = g.P.Pages.asked c.open.new.pages in
    let harms = g.R.Ranked.harms c.args.ranked.now c.args.pages.now old new in
    let has = g.R.Ranked.has_level in
    let log = (kept.history w).told.log in
    ⊎_elim
    (λ harm. g.met.R.Ranked.harms_sooner c.args.ranked.now c.args.pages.now old log.more new damage
    (subst (λ l. g.R.Ranked.harms c.args.ranked.now c.args.pages.now l new damage) log.log (kept.harms _ _ damage harm)))
    (λ off.
    let asked : AskedSince old new node.page = asked_sooner old log.more new node.page (subst (λ l. AskedSince l new node.page) log.log off.1.0) in
    let other : has (g.P.Pages.pages c.args.pages.now node.page) node.level → ⊥ = subst (λ (p : PageMap). has (p node.page) node.level → ⊥) kept.frame.pages off.1.1 in
    subst harms (sym off.0) (g.met.R.Ranked.mislevelled c.args.ranked.now c.args.pages.now old new node.page node.level
    (led_off g.R.Ranked.stands has (g.P.Pages.pages c.args.pages.now) _ _ _ _ _ node.page node.level node.bound _ _ (c.open.ensures.asks (kept.told w)) c.in-Some.ensures.some (kept.led w) other) (asked, other)))
    (c.open.ensures.damaged (kept.told w) damage (c.in_err-items-2.was ∙ ap Err (same-fault {T = Vec Hit Global} _ _ e))))

pub returns-in_err-items-2-clause-no_false_damage : goal.returns-in_err-items-2-clause-no_false_damage
returns-in_err-items-2-clause-no_false_damage g c =
    let passed = err_from_is_err_and c.from_residual-in_err-items-2.result c.from_residual-in_err-items-2.ensures.1 in
    let kept = c.search.invariant in
    let node = c.in-Some.node in
    let has = g.R.Ranked.has_node c.args.ranked.now c.args.pages.now in
    rw (passed.1, passed.2) (λ f damage e.
    c.open.ensures.no_false_damage (kept.fits f) (kept.stays node.page node.level (next_inside (OfNode has) (item_of node) _ _ c.in-Some.ensures.some (kept.inside f)).0) damage
    (c.in_err-items-2.was ∙ ap Err (same-fault {T = Vec Hit Global} _ _ e)))
