-- Why a change of a tree is damaged, by more pages asked for, and after a search.
use Rattle.std.proofs.Common.{◌≡◌, ◌⊎◌, ℕ, ◌<◌, ⊎_elim, inl, inr, List, length, refl, sym, subst}
use Rattle.page_face.specs.FreeList.{PageMap}
use Rattle.page_face.specs.Causes.{IsUncounted}
use Rattle.page_face.specs.declared.fault.Rule.{Rule}
use Rattle.page_face.specs.declared.fault.Rule.TheVariants.{Head, Link, Kind, Fill, Order, Spare, Level, Value, Shared, Rect, Row, Entry, Words, Counts}
use Rattle.page_face.specs.declared.fault.Damage.{Damage}
use Rattle.btree_nodes.specs.Damages.{AsksOnly}
use Rattle.btree_nodes.proofs.Harms.{asked-before}
use Rattle.rtree_nodes.specs.Harms.{BreaksAlone, HasWrongLevel, IsMislevelled, IsHarm}
use Rattle.node_rows.proofs.Harms.{harm-later}
use Rattle.irtree_shape.specs.Damages.{BreaksAnywhere, IsBroken, IsNodeHarm, IsTreeHarm}

-- a child of another level, after more was asked for
pub mislevelled-later : (mine : ℕ → ℕ) (pages : PageMap) (before middle after : List ℕ) (child : ℕ) → AsksOnly mine before middle → IsMislevelled pages middle after child → IsMislevelled pages before after child
mislevelled-later mine pages before middle after child more h = record {
  parent = h.parent;
  at = h.at;
  asked = asked-before mine before middle after h.parent more h.asked;
  names = h.names;
  level = h.level;
}

-- a node's damage, after more was asked for
pub node-later : (mine : ℕ → ℕ) (pages : PageMap) (count : ℕ) (before middle after : List ℕ) (damage : Damage) → AsksOnly mine before middle → IsNodeHarm pages count middle after damage → IsNodeHarm pages count before after damage
node-later mine pages count before middle after damage more h = record {
  asked = asked-before mine before middle after damage.page more h.asked;
  breaks = ⊎_elim (λ alone. inl alone) (λ below. inr (below.0, mislevelled-later mine pages before middle after damage.page more below.1)) h.breaks;
}

-- a tree's damage, after more was asked for
pub tree-later : (rows : ℕ) (mine : ℕ → ℕ) (pages : PageMap) (count first : ℕ) (before middle after : List ℕ) (damage : Damage) → AsksOnly mine before middle → IsTreeHarm pages count first rows middle after damage → IsTreeHarm pages count first rows before after damage
tree-later rows mine pages count first before middle after damage more h =
    ⊎_elim (λ node. inl (node-later mine pages count before middle after damage more node)) (λ harm. inr (harm-later rows mine pages count first before middle after damage more harm)) h

-- a page that isn't counted
pub broken-link : (rule : Rule) (pages : PageMap) (count page : ℕ) → rule ≡ Link → IsUncounted count page → IsBroken rule pages count page
broken-link rule pages count page is uncounted = subst (λ (r : Rule). IsBroken r pages count page) (sym is) uncounted

-- a page whose bytes were read
pub broken-read : (rule : Rule) (pages : PageMap) (count page : ℕ) (bytes : List ℕ) → (0 < length (pages page) → bytes ≡ pages page) → BreaksAnywhere rule bytes → IsBroken rule pages count page
broken-read Kind pages count page bytes is h = λ some. subst (BreaksAnywhere Kind) (is some) h
broken-read Fill pages count page bytes is h = λ some. subst (BreaksAnywhere Fill) (is some) h
broken-read Spare pages count page bytes is h = λ some. subst (BreaksAnywhere Spare) (is some) h
broken-read Value pages count page bytes is h = λ some. subst (BreaksAnywhere Value) (is some) h
broken-read Level pages count page bytes is h = λ some. subst (BreaksAnywhere Level) (is some) h
broken-read Link pages count page bytes is h = absurd h
broken-read Head pages count page bytes is h = absurd h
broken-read Order pages count page bytes is h = absurd h
broken-read Shared pages count page bytes is h = absurd h
broken-read Rect pages count page bytes is h = absurd h
broken-read Row pages count page bytes is h = absurd h
broken-read Entry pages count page bytes is h = absurd h
broken-read Words pages count page bytes is h = absurd h
broken-read Counts pages count page bytes is h = absurd h

-- what a page breaks by itself on a search
pub broken-alone : (rule : Rule) (pages : PageMap) (count page : ℕ) → BreaksAlone rule pages count page → IsBroken rule pages count page
broken-alone Link pages count page h = h
broken-alone Kind pages count page h = h
broken-alone Fill pages count page h = λ some. inl (h some)
broken-alone Value pages count page h = h
broken-alone Head pages count page h = absurd h
broken-alone Order pages count page h = absurd h
broken-alone Spare pages count page h = absurd h
broken-alone Level pages count page h = absurd h
broken-alone Shared pages count page h = absurd h
broken-alone Rect pages count page h = absurd h
broken-alone Row pages count page h = absurd h
broken-alone Entry pages count page h = absurd h
broken-alone Words pages count page h = absurd h
broken-alone Counts pages count page h = absurd h

broken-high : (rule : Rule) (pages : PageMap) (count root : ℕ) (before after : List ℕ) (page : ℕ) → rule ≡ Level → HasWrongLevel pages root before after page
    → IsBroken rule pages count page ⊎ ((rule ≡ Level) × IsMislevelled pages before after page)
broken-high Level pages count root before after page e h = ⊎_elim (λ high. inl high.1) (λ below. inr (refl, below)) h
broken-high Link pages count root before after page e h = cc
broken-high Kind pages count root before after page e h = cc
broken-high Fill pages count root before after page e h = cc
broken-high Value pages count root before after page e h = cc
broken-high Head pages count root before after page e h = cc
broken-high Order pages count root before after page e h = cc
broken-high Spare pages count root before after page e h = cc
broken-high Shared pages count root before after page e h = cc
broken-high Rect pages count root before after page e h = cc
broken-high Row pages count root before after page e h = cc
broken-high Entry pages count root before after page e h = cc
broken-high Words pages count root before after page e h = cc
broken-high Counts pages count root before after page e h = cc

-- what a search is refused for is a node's damage
pub find-harm : (pages : PageMap) (count root : ℕ) (before after : List ℕ) (damage : Damage) → IsHarm pages count root before after damage → IsNodeHarm pages count before after damage
find-harm pages count root before after damage h = record {
  asked = h.asked;
  breaks = ⊎_elim (λ alone. inl (broken-alone damage.rule pages count damage.page alone)) (λ wrong. broken-high damage.rule pages count root before after damage.page wrong.0 wrong.1) h.breaks;
}
