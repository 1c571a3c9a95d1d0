-- What a tree doesn't break, and what a call asked for.
use Rattle.std.proofs.Common.{◌≡◌, ℕ, zero, suc, ◌+◌, ◌<◌, ⊎_elim, List, [], ◌∷◌, ◌++◌, arith, sym, ap, ◌∙◌, subst, append_assoc, append-nil, Bool, true, false, ◌&&◌}
use Rattle.page_face.specs.FreeList.{PageMap}
use Rattle.page_face.specs.Causes.{IsUncounted}
use Rattle.page_face.specs.declared.fault.Rule.{Rule}
use Rattle.page_face.specs.declared.fault.Rule.TheVariants.{Head, Link, Kind, Fill, Order, Spare, Level, Value, Shared, Rect, Row, Entry, Words, Counts}
use Rattle.page_face.specs.declared.fault.Damage.{Damage}
use Rattle.btree_nodes.specs.declared.form.Form.{Form}
use Rattle.page_face.specs.Nodes.{IsNode}
use Rattle.btree_nodes.specs.Nodes.{half_of, entries_in}
use Rattle.btree_nodes.specs.Nodes.{Entry as Pair}
use Rattle.btree_nodes.specs.Tree.{IsFan, IsTree, uses, total, with_low, next_key}
use Rattle.btree_nodes.specs.Damages.{Breaks, SomeChild, IsDamaged, AskedSince, KeepsAsked, AsksOnly}
use Rattle.btree_nodes.proofs.Orders.{fan-any}
use Rattle.btree_nodes.proofs.Frames.{with_low-total}
use Rattle.btree_nodes.proofs.Supplies.{one_at-same}
use Rattle.std.specs.List.{AllByRecursion}

spare-breaks : (a b : Bool) → a ≡ true → b ≡ true → (a && b) ≡ false → ⊥
spare-breaks true true p q h = cc
spare-breaks true false p q h = cc
spare-breaks false b p q h = cc

-- a node in order breaks no rule
node-breaks : (rule : Rule) (number kind level width least : ℕ) (order : Type 0) (page : List ℕ) → IsNode number kind level width least page → order → Breaks rule number kind level width least order page → ⊥
node-breaks Kind number kind level width least order page n o h = ⊎_elim (λ k. k n.kind) (λ k. k n.of) h
node-breaks Level number kind level width least order page n o h = h n.level
node-breaks Fill number kind level width least order page n o h = let f = n.fill in let g = n.fits in ⊎_elim (λ k. absurd (omega arith)) (λ k. absurd (omega arith)) h
node-breaks Spare number kind level width least order page n o h = let a = n.plain in let b = n.rest in spare-breaks _ _ a b h
node-breaks Order number kind level width least order page n o h = h o
node-breaks Head number kind level width least order page n o h = h
node-breaks Link number kind level width least order page n o h = h
node-breaks Value number kind level width least order page n o h = h
node-breaks Shared number kind level width least order page n o h = h
node-breaks Rect number kind level width least order page n o h = h
node-breaks Row number kind level width least order page n o h = h
node-breaks Entry number kind level width least order page n o h = h
node-breaks Words number kind level width least order page n o h = h
node-breaks Counts number kind level width least order page n o h = h

module _ (P D : ℕ → ℕ → ℕ → Type 0) (U : ℕ → ℕ → ℕ) (Fine : ℕ → Type 0) (each : (c a b : ℕ) → P c a b → ((n : ℕ) → 0 < U c n → Fine n) → D c a b → ⊥) where
  fan-undamaged : (low high : ℕ) (es : List Pair) → IsFan P low high es → ((n : ℕ) → 0 < total (λ (c : ℕ). U c n) es → Fine n) → SomeChild D high es → ⊥
  fan-undamaged low high [] h k d = d
  fan-undamaged low high (e ∷ es) h k d =
      ⊎_elim (λ here. each e.1 low (next_key high es) h.2 (λ n l. k n (omega arith)) (subst (λ (a : ℕ). D e.1 a (next_key high es)) h.0 here))
      (λ there. fan-undamaged (next_key high es) high es h.3 (λ n l. k n (omega arith)) there) d

-- no page of a tree is damaged
pub tree-undamaged : (form : Form) (pages : PageMap) (count : ℕ) (damage : Damage) (least level page low high : ℕ) → IsTree form least pages level page low high
    → ((n : ℕ) → 0 < uses form pages level page n → IsUncounted count n → ⊥) → IsDamaged form pages count damage least level page low high → ⊥
tree-undamaged form pages count damage least zero page low high tree counted d =
    let one = one_at-same page in
    ⊎_elim (λ link. counted page (omega arith) link.1) (λ b. node-breaks damage.rule form.map 1 0 (form.key + form.value) least _ (pages page) tree.0 tree.1 b) d.1
tree-undamaged form pages count damage least (suc level) page low high tree counted d =
    let one = one_at-same page in
    let es : List Pair = entries_in form (pages page) in
    ⊎_elim
    (λ here. ⊎_elim (λ link. counted page (omega arith) link.1)
    (λ b. node-breaks damage.rule form.map 2 (suc level) (form.key + 4) least _ (pages page) tree.0.node (tree.0.first, fan-any (IsTree form (half_of form level) pages level) low high (with_low low es) tree.1) b) here.1)
    (λ there. fan-undamaged (IsTree form (half_of form level) pages level) (IsDamaged form pages count damage (half_of form level) level) (uses form pages level) (λ n. IsUncounted count n → ⊥)
    (λ c a b t k q. tree-undamaged form pages count damage (half_of form level) level c a b t k q) low high (with_low low es) tree.1
    (λ n l. counted n (let e = with_low-total (λ (c : ℕ). uses form pages level c n) low es in omega arith)) there)
    d

-- a page that was asked for last
pub asked-here : (before after : List ℕ) (page : ℕ) → after ≡ before ++ page ∷ [] → AskedSince before after page
asked-here before after page e = record { front = []; back = []; is = e }

-- a page that was asked for behind another one
pub asked-sooner : (before after : List ℕ) (first page : ℕ) → AskedSince (before ++ first ∷ []) after page → AskedSince before after page
asked-sooner before after first page a = record { front = first ∷ a.front; back = a.back; is = a.is ∙ append_assoc before (first ∷ []) (a.front ++ (page ∷ a.back)) }

-- a page asked for before the first of these, where that one was itself asked for later than this
pub asked-from : (before middle after : List ℕ) (first page : ℕ) → AskedSince before middle first → AskedSince middle after page → AskedSince before after page
asked-from before middle after first page a b = record {
  front = (a.front ++ (first ∷ a.back)) ++ b.front;
  back = b.back;
  is = b.is ∙ ap (λ (x : List ℕ). x ++ (b.front ++ (page ∷ b.back))) a.is ∙ append_assoc before (a.front ++ (first ∷ a.back)) (b.front ++ (page ∷ b.back))
      ∙ ap (λ (x : List ℕ). before ++ x) (sym (append_assoc (a.front ++ (first ∷ a.back)) b.front (page ∷ b.back)));
}

-- a page asked for in the first of two steps
pub asked-before : (mine : ℕ → ℕ) (before middle after : List ℕ) (page : ℕ) → AsksOnly mine before middle → AskedSince middle after page → AskedSince before after page
asked-before mine before middle after page m a = record {
  front = m.more ++ a.front;
  back = a.back;
  is = a.is ∙ ap (λ (x : List ℕ). x ++ (a.front ++ (page ∷ a.back))) m.is ∙ append_assoc before m.more (a.front ++ (page ∷ a.back))
      ∙ ap (λ (x : List ℕ). before ++ x) (sym (append_assoc m.more a.front (page ∷ a.back)));
}

-- a page that was asked for stays so where more are
pub asks-keep : (mine : ℕ → ℕ) (old new : List ℕ) → AsksOnly mine old new → KeepsAsked old new
asks-keep mine old new m before page a = record {
  front = a.front;
  back = a.back ++ m.more;
  is = m.is ∙ ap (λ (x : List ℕ). x ++ m.more) a.is ∙ append_assoc before (a.front ++ (page ∷ a.back)) m.more
      ∙ ap (λ (x : List ℕ). before ++ x) (append_assoc a.front (page ∷ a.back) m.more);
}

own-append : (P : ℕ → Type 0) (xs ys : List ℕ) → AllByRecursion P xs → AllByRecursion P ys → AllByRecursion P (xs ++ ys)
own-append P [] ys h k = k
own-append P (x ∷ xs) ys h k = (h.0, own-append P xs ys h.1 k)

own-more : (P Q : ℕ → Type 0) (xs : List ℕ) → ((n : ℕ) → P n → Q n) → AllByRecursion P xs → AllByRecursion Q xs
own-more P Q [] f h = tt
own-more P Q (x ∷ xs) f h = (f x h.0, own-more P Q xs f h.1)

-- nothing was asked for
pub asks-nothing : (mine : ℕ → ℕ) (before after : List ℕ) → after ≡ before → AsksOnly mine before after
asks-nothing mine before after e = record { more = []; is = e ∙ sym (append-nil before); own = tt }

-- one page was asked for
pub asks-here : (mine : ℕ → ℕ) (before after : List ℕ) (page : ℕ) → 0 < mine page → after ≡ before ++ page ∷ [] → AsksOnly mine before after
asks-here mine before after page some e = record { more = page ∷ []; is = e; own = (some, tt) }

-- one step after another
pub asks-further : (mine : ℕ → ℕ) (before middle after : List ℕ) → AsksOnly mine before middle → AsksOnly mine middle after → AsksOnly mine before after
asks-further mine before middle after m a = record {
  more = m.more ++ a.more;
  is = a.is ∙ ap (λ (x : List ℕ). x ++ a.more) m.is ∙ append_assoc before m.more a.more;
  own = own-append (λ n. 0 < mine n) m.more a.more m.own a.own;
}

-- more pages are one's own
pub asks-more : (theirs mine : ℕ → ℕ) (before after : List ℕ) → ((n : ℕ) → 0 < theirs n → 0 < mine n) → AsksOnly theirs before after → AsksOnly mine before after
asks-more theirs mine before after f a = record { more = a.more; is = a.is; own = own-more (λ n. 0 < theirs n) (λ n. 0 < mine n) a.more f a.own }
