use Rattle.std.proofs.Common.{◌≡◌, ℕ, ◌<◌, ◌∙◌, Bool, true, List, length, slice_index, Vec, Global, Err, inl, ap, sym, subst}
use Rattle.std.specs.Prelude.{IfOk}
use Rattle.std.specs.List.{AllByRecursion}
use Rattle.page_face.specs.FreeList.{PageMap}
use Rattle.page_face.specs.Causes.{IsUncounted}
use Rattle.btree_nodes.specs.Damages.{AskedSince}
use Rattle.btree_nodes.specs.Tree.{map_uses}
use Rattle.btree_nodes.proofs.Harms.{asked-before}
use Rattle.btree_nodes.proofs.Walks.{same-fault, told-read}
use Rattle.rtree_nodes.specs.Stock.{rows_form}
use Rattle.rtree_nodes.specs.Pages.{level_in, stored_in}
use Rattle.rtree_nodes.specs.Harms.{BreaksPlace}
use Rattle.node_rows.specs.Rows.{bytes_in}
use Rattle.best_first.specs.declared.item.Item.{Item}
use Rattle.best_first.specs.Lists.{all_weaker}
use Rattle.node_filter.specs.Numbers.{byte_of}
use Rattle.node_filter.specs.Masks.{has_slot}
use Rattle.btree_nodes.specs.Tree.{IsMap}
use Rattle.rtree_nodes.specs.Pages.{is_form}
use Rattle.rtree_nodes.proofs.Laws.{form-bytes}
use Rattle.best_first.specs.Items.{IsGivenAt}
use Rattle.best_first.specs.Cuts.{kept_of, Gave}
use Rattle.best_first.specs.NodeOpenings.{given_by, given_at, marked_by, spread, IsIn, IsSoundNode, StandsIn, SaysLevel}
use Rattle.best_first.proofs.Cutting.{gave-from}
use Rattle.best_first.proofs.Marked.{marked-same, all-levels, all-stored}
use Rattle.best_first.proofs.Spreads.{spread-same}
use Rattle.best_first.proofs.Asking.{asks-both}
use Rattle.best_first.proofs.Outcomes.{ok-three, ok-weaker, ok-always, value-harm, place-harm, sound-fine}
use Rattle.best_first.proofs.opening.opened.Goals as goal

pub returns-in-Ok-enter_at-clause-gave : goal.returns-in-Ok-enter_at-clause-gave
returns-in-Ok-enter_at-clause-gave g c =
    let old : PageMap = g.P.Pages.pages c.args.pages.now in
    let F : ℕ → List ℕ → ℕ = byte_of c.args.ids.now (bytes_in old c.args.tree.now.rows c.args.node) in
    let from = c.args.from.now in
    let ask = c.args.ask.now in
    let level : ℕ = c.args.level in
    let marks = c.in-Ok.marks in
    let marked : ℕ → Bool = has_slot marks.slots in
    let text : ℕ → ℕ = slice_index marks.texts in
    let bytes : List ℕ = c.looked.result.now in
    let same : 0 < length (old c.args.node) → bytes ≡ old c.args.node = λ some.
    c.looked.ensures ∙ subst (λ (p : PageMap). 0 < length (p c.args.node) → g.P.Pages.looked c.enter_at.new.pages ≡ p c.args.node) c.marks.ensures.rows.frame.pages c.in-Ok-enter_at.ensures.gives some in
    let here : level ≡ level_in bytes = c.in-Ok-enter_at.ensures.level ∙ ap level_in (sym c.looked.ensures) in
    let stands : (items : List Item) → AllByRecursion (IsIn (stored_in bytes)) items → AllByRecursion (StandsIn (old c.args.node) level) items = λ items.
    all_weaker (IsIn (stored_in bytes)) (StandsIn (old c.args.node) level) (λ i k some. subst (λ (b : List ℕ). IsIn (stored_in b) i) (same some) k) items in
    ok-three (λ (items : Vec Item Global). items.items ≡ kept_of c.args.most (spread 32 (λ i. given_at (marked_by from ask level (marked i) (text i)) (stored_in bytes i)))) (λ (items : Vec Item Global). AllByRecursion (IsGivenAt level) items.items) (λ (items : Vec Item Global). AllByRecursion (IsIn (stored_in bytes)) items.items)
    (λ (items : Vec Item Global). Gave (StandsIn (old c.args.node) level) level (IsMap rows_form old c.args.tree.now.rows × IsSoundNode old (g.P.Pages.count c.args.pages.now) c.args.node level) (spread 32 (λ i. given_at (given_by from ask level (F i)) (stored_in (old c.args.node) i))) c.args.most items.items) c.gather.result
    (λ items e levels stand. gave-from bytes (StandsIn (old c.args.node) level) level (IsMap rows_form old c.args.tree.now.rows × IsSoundNode old (g.P.Pages.count c.args.pages.now) c.args.node level) (spread 32 (λ i. given_at (given_by from ask level (F i)) (stored_in (old c.args.node) i))) c.args.most
    (spread 32 (λ i. given_at (marked_by from ask level (marked i) (text i)) (stored_in bytes i))) items.items e (stands items.items stand) levels
    (λ form. stands (spread 32 (λ i. given_at (marked_by from ask level (marked i) (text i)) (stored_in bytes i))) (all-stored from ask bytes level marked text here form))
    (all-levels from ask level marked text (stored_in bytes))
    (λ w. subst (λ (b : List ℕ). is_form b ≡ true) (sym (same (form-bytes (old c.args.node) w.1.form))) w.1.form)
    (λ w. spread-same 32 (λ i. given_at (marked_by from ask level (marked i) (text i)) (stored_in bytes i)) (λ i. given_at (given_by from ask level (F i)) (stored_in bytes i))
    (λ i l. marked-same from ask level (marked i) (text i) (F i) (stored_in bytes i) (c.in-Ok.ensures.slots w.0 i l) (c.in-Ok.ensures.texts w.0 i l))
    ∙ ap (λ (b : List ℕ). spread 32 (λ i. given_at (given_by from ask level (F i)) (stored_in b i))) (same (form-bytes (old c.args.node) w.1.form))))
    c.gather.ensures.given c.gather.ensures.levels c.gather.ensures.stand

pub returns-in-Ok-enter_at-clause-stand : goal.returns-in-Ok-enter_at-clause-stand
returns-in-Ok-enter_at-clause-stand g c =
    let old : PageMap = g.P.Pages.pages c.args.pages.now in
    ok-weaker (λ (items : Vec Item Global). AllByRecursion (IsIn (stored_in c.looked.result.now)) items.items) (λ (items : Vec Item Global). AllByRecursion (StandsIn (old c.args.node) c.args.level) items.items) c.gather.result
    (λ items h. all_weaker (IsIn (stored_in c.looked.result.now)) (StandsIn (old c.args.node) c.args.level)
    (λ i k some. (let same : c.looked.result.now ≡ old c.args.node =
    c.looked.ensures ∙ subst (λ (p : PageMap). 0 < length (p c.args.node) → g.P.Pages.looked c.enter_at.new.pages ≡ p c.args.node) c.marks.ensures.rows.frame.pages c.in-Ok-enter_at.ensures.gives some in
    subst (λ (bytes : List ℕ). IsIn (stored_in bytes) i) same k)) items.items h)
    c.gather.ensures.stand

pub returns-in-Ok-enter_at-clause-level : goal.returns-in-Ok-enter_at-clause-level
returns-in-Ok-enter_at-clause-level g c = λ told.
    let old : PageMap = g.P.Pages.pages c.args.pages.now in
    let count : ℕ = g.P.Pages.count c.args.pages.now in
    let f = c.marks.ensures.rows.frame in
    let some : 0 < length (old c.args.node) = told-read old count c.args.node told (subst (λ (k : ℕ). IsUncounted k c.args.node → ⊥) f.count c.in-Ok-enter_at.ensures.counted) in
    let same = subst (λ (p : PageMap). 0 < length (p c.args.node) → g.P.Pages.looked c.enter_at.new.pages ≡ p c.args.node) f.pages c.in-Ok-enter_at.ensures.gives some in
    ok-always (λ (items : Vec Item Global). SaysLevel (old c.args.node) c.args.level) c.gather.result (λ items. (some, sym (c.in-Ok-enter_at.ensures.level ∙ ap level_in same)))

pub returns-in-Ok-enter_at-clause-asked : goal.returns-in-Ok-enter_at-clause-asked
returns-in-Ok-enter_at-clause-asked g c = λ told.
    let old : PageMap = g.P.Pages.pages c.args.pages.now in
    ok-always (λ (items : Vec Item Global). AskedSince (g.P.Pages.asked c.args.pages.now) (g.P.Pages.asked c.enter_at.new.pages) c.args.node) c.gather.result
    (λ items. asked-before (map_uses rows_form old c.args.tree.now.rows) (g.P.Pages.asked c.args.pages.now) (g.P.Pages.asked c.marks.new.pages) (g.P.Pages.asked c.enter_at.new.pages) c.args.node (c.marks.ensures.rows.own told) c.in-Ok-enter_at.ensures.here)

pub returns-in-Ok-enter_at-clause-asks : goal.returns-in-Ok-enter_at-clause-asks
returns-in-Ok-enter_at-clause-asks g c = λ told.
    asks-both (g.P.Pages.pages c.args.pages.now) c.args.tree.now.rows c.args.node _ _ _ (c.marks.ensures.rows.own told) c.enter_at.ensures.asks

pub returns-in-Err-enter_at-clause-asks : goal.returns-in-Err-enter_at-clause-asks
returns-in-Err-enter_at-clause-asks g c = λ told.
    asks-both (g.P.Pages.pages c.args.pages.now) c.args.tree.now.rows c.args.node _ _ _ (c.marks.ensures.rows.own told) c.enter_at.ensures.asks

pub returns-in-Ok-enter_at-clause-damaged : goal.returns-in-Ok-enter_at-clause-damaged
returns-in-Ok-enter_at-clause-damaged g c = λ told damage e.
    let old : PageMap = g.P.Pages.pages c.args.pages.now in
    let count : ℕ = g.P.Pages.count c.args.pages.now in
    let there = asked-before (map_uses rows_form old c.args.tree.now.rows) (g.P.Pages.asked c.args.pages.now) (g.P.Pages.asked c.marks.new.pages) (g.P.Pages.asked c.enter_at.new.pages) c.args.node (c.marks.ensures.rows.own told) c.in-Ok-enter_at.ensures.here in
    inl (value-harm old count c.args.tree.now.rows c.args.node (g.P.Pages.asked c.args.pages.now) (g.P.Pages.asked c.enter_at.new.pages) c.looked.result.now c.gather.result damage e there
    (λ some. c.looked.ensures ∙ subst (λ (p : PageMap). 0 < length (p c.args.node) → g.P.Pages.looked c.enter_at.new.pages ≡ p c.args.node) c.marks.ensures.rows.frame.pages c.in-Ok-enter_at.ensures.gives some)
    c.gather.ensures.cause)

pub returns-in-Err-enter_at-clause-damaged : goal.returns-in-Err-enter_at-clause-damaged
returns-in-Err-enter_at-clause-damaged g c = λ told damage e.
    let old : PageMap = g.P.Pages.pages c.args.pages.now in
    let count : ℕ = g.P.Pages.count c.args.pages.now in
    let f = c.marks.ensures.rows.frame in
    let d = c.enter_at.ensures.damaged damage (c.in-Err-enter_at.is ∙ ap Err (same-fault {T = Vec Item Global} _ _ e)) in
    let there = asked-before (map_uses rows_form old c.args.tree.now.rows) (g.P.Pages.asked c.args.pages.now) (g.P.Pages.asked c.marks.new.pages) (g.P.Pages.asked c.enter_at.new.pages) c.args.node (c.marks.ensures.rows.own told) d.1 in
    let broken : BreaksPlace damage.rule old count c.args.node (λ found. found ≡ c.args.level → ⊥) =
    subst (λ (k : ℕ). BreaksPlace damage.rule old k c.args.node (λ found. found ≡ c.args.level → ⊥)) f.count (subst (λ (x : PageMap). BreaksPlace damage.rule x (g.P.Pages.count c.marks.new.pages) c.args.node (λ found. found ≡ c.args.level → ⊥)) f.pages d.2) in
    place-harm old count c.args.tree.now.rows c.args.node c.args.level (g.P.Pages.asked c.args.pages.now) (g.P.Pages.asked c.enter_at.new.pages) damage d.0 there broken

pub returns-in-Err-enter_at-clause-no_false_damage : goal.returns-in-Err-enter_at-clause-no_false_damage
returns-in-Err-enter_at-clause-no_false_damage g c = λ map counted told sound damage e.
    let old : PageMap = g.P.Pages.pages c.args.pages.now in
    let count : ℕ = g.P.Pages.count c.args.pages.now in
    let f = c.marks.ensures.rows.frame in
    let d = c.enter_at.ensures.damaged damage (c.in-Err-enter_at.is ∙ ap Err (same-fault {T = Vec Item Global} _ _ e)) in
    let broken : BreaksPlace damage.rule old count c.args.node (λ found. found ≡ c.args.level → ⊥) =
    subst (λ (k : ℕ). BreaksPlace damage.rule old k c.args.node (λ found. found ≡ c.args.level → ⊥)) f.count (subst (λ (x : PageMap). BreaksPlace damage.rule x (g.P.Pages.count c.marks.new.pages) c.args.node (λ found. found ≡ c.args.level → ⊥)) f.pages d.2) in
    sound-fine damage.rule old count c.args.node c.args.level sound broken
