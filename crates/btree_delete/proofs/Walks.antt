-- One step down a tree: what a page's child has is what the page has.
use Rattle.std.proofs.Common.{◌≡◌, ℕ, zero, suc, ◌<◌, ◌≤◌, inl, inr, List, [], ◌∷◌, ◌++◌, length, arith, refl, sym, ap, ◌∙◌, subst, Result, Err, Option, Some, None}
use Rattle.page_face.specs.FreeList.{PageMap}
use Rattle.page_face.specs.Calls.{Reads, TakesNone}
use Rattle.page_face.specs.declared.fault.Rule.{Rule}
use Rattle.page_face.specs.declared.fault.Damage.{Damage}
use Rattle.page_face.specs.declared.fault.PageFault.{PageFault}
use Rattle.page_face.specs.declared.fault.PageFault.TheVariants.{Damaged}
use Rattle.page_face.specs.declared.pages.Pages.{Ghosts}
use Rattle.page_face.proofs.Frames.{takes_none_then, reads_take_none}
use Rattle.btree_nodes.specs.declared.form.Form.{Form}
use Rattle.page_face.specs.Nodes.{count_of}
use Rattle.btree_nodes.specs.Tree.{IsTree, uses}
use Rattle.btree_nodes.specs.Bounds.{child_of}
use Rattle.btree_nodes.specs.Damages.{BreaksLeaf, BreaksInner, IsDamaged, AreReadable, AskedSince, AsksOnly}
use Rattle.btree_delete.specs.Removal.{BreaksAt}
use Rattle.btree_delete.specs.Mended.{IsBeside}
use Rattle.btree_delete.specs.Looks.{HasLooked, ReadableBeside, HasBeside}
use Rattle.btree_delete.specs.declared.settling.Beside.{Beside}
use Rattle.btree_nodes.proofs.Trees.{child-uses}
use Rattle.btree_nodes.proofs.Harms.{asked-from, asked-here, asks-here, asks-further, asks-more}
use Rattle.btree_nodes.proofs.Walks.{inside, uses-below, uses-self}

-- the page that a refusal names
abbrev pub page_named : {T : Type 0} → Result T PageFault → ℕ
page_named (Err (Damaged damage)) = damage.page
page_named _ = 0

pub named-page : {T : Type 0} (result : Result T PageFault) (fault : PageFault) (page : ℕ) (rule : Rule) (damage : Damage) → result ≡ Err fault → fault ≡ Damaged (record { page = page; rule = rule }) → result ≡ Err (Damaged damage) → damage.page ≡ page
named-page {T = T} result fault page rule damage e f h =
    sym (ap (page_named {T = T}) h) ∙ ap (page_named {T = T}) e ∙ ap (λ (x : PageFault). page_named {T = T} (Err x)) f

-- the damage is the rule that a page was refused for
pub damage-rule : (form : Form) (pages : PageMap) (count : ℕ) (damage : Damage) (least level page low high : ℕ) (bytes : List ℕ) (rule : Rule) (fault : PageFault) → bytes ≡ pages page
    → fault ≡ Damaged (record { page = page; rule = rule }) → fault ≡ Damaged damage → BreaksAt rule form least level low high bytes → IsDamaged form pages count damage least level page low high
damage-rule form pages count damage least zero page low high bytes rule fault is e f h =
    let same : record { page = page; rule = rule } ≡ damage = cc in
    subst (λ (d : Damage). IsDamaged form pages count d least 0 page low high) same (refl, inr (subst (λ (b : List ℕ). BreaksLeaf rule form least low high b) is h))
damage-rule form pages count damage least (suc level) page low high bytes rule fault is e f h =
    let same : record { page = page; rule = rule } ≡ damage = cc in
    subst (λ (d : Damage). IsDamaged form pages count d least (suc level) page low high) same (inl (refl, inr (subst (λ (b : List ℕ). BreaksInner rule form least (suc level) low high b) is h)))

-- the page asked for, and then its child
pub asked-child : (before asked new : List ℕ) (page child : ℕ) → AskedSince before asked page → new ≡ asked ++ child ∷ [] → AskedSince before new child
asked-child before asked new page child a e = asked-from before asked new page child a (asked-here asked new child e)

-- the neighbour's bytes are those of its page, where that is told and stays
pub beside-is : (form : Form) (pages old mid : PageMap) (counted below : ℕ) (bytes : List ℕ) (at count cells : ℕ) (o : Option Beside) → pages ≡ old → HasLooked form counted below bytes at count cells o → ReadableBeside form pages bytes o
    → ((near : ℕ) → IsBeside at count near → (0 < length (old (child_of form bytes near))) × (mid (child_of form bytes near) ≡ old (child_of form bytes near))) → HasBeside form mid bytes o
beside-is form pages old mid counted below bytes at count cells None e l t h = tt
beside-is form pages old mid counted below bytes at count cells (Some b) e l t h =
    let k = h b.at l.place in
    let told : 0 < length (pages (child_of form bytes b.at)) = subst (λ (p : PageMap). 0 < length (p (child_of form bytes b.at))) (sym e) k.0 in
    t told ∙ ap (λ (p : PageMap). p (child_of form bytes b.at)) e ∙ sym k.1

-- what was asked for down to a child's neighbour
pub own-looked : (form : Form) (old pages : PageMap) (level l page at child : ℕ) (bytes a0 a1 a2 : List ℕ) → level ≡ suc l → bytes ≡ old page → at < count_of bytes → child ≡ child_of form bytes at → pages ≡ old → a1 ≡ a0 ++ child ∷ []
    → ((p : ℕ) → bytes ≡ pages p → AsksOnly (uses form pages (suc l) p) a1 a2) → AsksOnly (uses form old level page) a0 a2
own-looked form old pages level l page at child bytes a0 a1 a2 up is small e same asked looked =
    let mine : ℕ → ℕ = uses form old level page in
    let u = uses-below form old bytes level l page at up is small child child e (uses-self form old l child) in
    let b : AsksOnly (uses form old (suc l) page) a1 a2 = subst (λ (q : PageMap). bytes ≡ q page → AsksOnly (uses form q (suc l) page) a1 a2) same (looked page) is in
    asks-further mine a0 a1 a2 (asks-here mine a0 a1 child u asked) (subst (λ (k : ℕ). AsksOnly (uses form old k page) a1 a2) (sym up) b)

-- and below the child
pub own-below : (form : Form) (old pages : PageMap) (count count' level l page at child : ℕ) (bytes below a0 a2 a3 : List ℕ) → level ≡ suc l → bytes ≡ old page → at < count_of bytes → child ≡ child_of form bytes at → pages ≡ old → count' ≡ count
    → AreReadable old count → below ≡ old child → AsksOnly (uses form old level page) a0 a2 → (AreReadable pages count' → below ≡ pages child → AsksOnly (uses form pages l child) a2 a3) → AsksOnly (uses form old level page) a0 a3
own-below form old pages count count' level l page at child bytes below a0 a2 a3 up is small e same more told there first deeper =
    let mine : ℕ → ℕ = uses form old level page in
    let b : AsksOnly (uses form old l child) a2 a3 = subst (λ (n : ℕ). AreReadable old n → below ≡ old child → AsksOnly (uses form old l child) a2 a3) more
    (subst (λ (q : PageMap). AreReadable q count' → below ≡ q child → AsksOnly (uses form q l child) a2 a3) same deeper) told there in
    asks-further mine a0 a2 a3 first (asks-more (uses form old l child) mine a2 a3 (λ n h. uses-below form old bytes level l page at up is small child n e h) b)

-- a neighbour's damage is the page's
pub damage-looked : (form : Form) (old pages : PageMap) (count count' level l page least low high : ℕ) (bytes : List ℕ) (damage : Damage) → level ≡ suc l → pages ≡ old → count' ≡ count → AreReadable old count → bytes ≡ old page
    → (AreReadable pages count' → bytes ≡ pages page → IsDamaged form pages count' damage least (suc l) page low high) → IsDamaged form old count damage least level page low high
damage-looked form old pages count count' level l page least low high bytes damage up same more told is d =
    let b : IsDamaged form old count damage least (suc l) page low high = subst (λ (n : ℕ). AreReadable old n → bytes ≡ old page → IsDamaged form old n damage least (suc l) page low high) more
    (subst (λ (q : PageMap). AreReadable q count' → bytes ≡ q page → IsDamaged form q count' damage least (suc l) page low high) same d) told is in
    subst (λ (k : ℕ). IsDamaged form old count damage least k page low high) (sym up) b

-- the same in a well-formed tree
pub damage-in_tree : (form : Form) (old pages : PageMap) (count count' level l page least low high : ℕ) (bytes : List ℕ) (damage : Damage) → level ≡ suc l → pages ≡ old → count' ≡ count → bytes ≡ old page
    → IsTree form least old level page low high
    → (bytes ≡ pages page → IsTree form least pages (suc l) page low high → IsDamaged form pages count' damage least (suc l) page low high) → IsDamaged form old count damage least level page low high
damage-in_tree form old pages count count' level l page least low high bytes damage up same more is tree d =
    let b : IsDamaged form old count damage least (suc l) page low high = subst (λ (n : ℕ). IsDamaged form old n damage least (suc l) page low high) more
    (subst (λ (q : PageMap). bytes ≡ q page → IsTree form least q (suc l) page low high → IsDamaged form q count' damage least (suc l) page low high) same d is
    (subst (λ (k : ℕ). IsTree form least old k page low high) up tree)) in
    subst (λ (k : ℕ). IsDamaged form old count damage least k page low high) (sym up) b

-- a child's pages are among those of the page
pub uses-most : (form : Form) (old : PageMap) (bytes : List ℕ) (level l page at : ℕ) → level ≡ suc l → bytes ≡ old page → at < count_of bytes → (child n : ℕ) → child ≡ child_of form bytes at → uses form old l child n ≤ uses form old level page n
uses-most form old bytes level l page at up is small child n e =
    let e' : child ≡ child_of form (old page) at = e ∙ ap (λ (b : List ℕ). child_of form b at) is in
    let a : uses form old l child n ≡ uses form old l (child_of form (old page) at) n = ap (λ (c : ℕ). uses form old l c n) e' in
    let b = child-uses form old l page at (inside form old bytes level l page at up is small) n in
    let d : uses form old level page n ≡ uses form old (suc l) page n = ap (λ (k : ℕ). uses form old k page n) up in
    omega arith

-- a page read, and then more looked at
pub read-looked : {P : Type 0} (g : Ghosts P) (further : (a b c : P) → g.follows_from a b → g.follows_from b c → g.follows_from a c) (a b c : P)
    → g.count b ≡ g.count a → g.room b ≡ g.room a → g.faults a ≤ g.faults b → g.refused b ≡ g.refused a → g.is_stopped b ≡ g.is_stopped a → g.follows_from a b → Reads g b c → TakesNone g a c
read-looked g further a b c count room faults refused goes_on follows looked =
    takes_none_then g further a b c (record { count = count; room = room; faults = faults; refused = refused; goes_on = goes_on; follows = follows }) (reads_take_none g b c looked)
