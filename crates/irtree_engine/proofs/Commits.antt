-- What a commit leaves stands for the state before it, or for the one that was committed.
use Rattle.std.proofs.Common.{◌≡◌, ℕ, Bool, true, ⊎_elim, inl, inr, refl, sym, ap, subst, ◌∙◌}
use Rattle.disk_model.specs.World.{World, Image, LeavesOnly}
use Rattle.disk_model.proofs.Moments.{rested, then, within}
use Rattle.page_journal.specs.Record.{applied}
use Rattle.page_store.specs.Contents.{Contents, HoldsContents, HoldsOneOf, IsCommitted, IsVersion1Page, Overlay, contents_in, counted_pages, page_bytes, shown}
use Rattle.page_store.specs.Store.{Rests}
use Rattle.page_store.specs.Superblock.{IsInRange}
use Rattle.page_store.specs.declared.superblock.Superblock.{Superblock}
use Rattle.place_values.specs.State as states
use Rattle.store_model.specs.Stands.{PagesStand, Stands}
use Rattle.store_model.proofs.Images.{area-one}
use Rattle.irtree_engine.specs.Updates.{LeavesOneOf}

-- an image whose contents stand for a state stands for it
contents-stand : (image : Image) (contents : Contents) (state : states.Contents) → PagesStand contents.block contents.pages state → HoldsContents contents image → Stands image state
contents-stand image contents state stand holds = record { contents = contents; holds = holds; stand = stand }

-- the pages that a committed disk stands for hold the contents that stand for the state
area-contents : (block : Superblock) (at : ℕ) (world : World) (state : states.Contents) → IsCommitted block at world → Stands world.seen state
    → PagesStand (contents_in (applied world.seen)).block (contents_in (applied world.seen)).pages state
area-contents block at world state committed stands =
    let area = area-one world.seen stands.holds.area (applied world.seen) stands.holds.stands (committed.ready.journal, refl) in
    subst (λ (c : Contents). PagesStand c.block c.pages state) (sym stands.holds.holds ∙ ap contents_in area) stands.stand

-- after a commit the image stands for the state that was committed
pub commit-stands : (block : Superblock) (at : ℕ) (world : World) (contents : Contents) (state : states.Contents) → IsCommitted block at world → contents_in (applied world.seen) ≡ contents
    → PagesStand contents.block contents.pages state → Stands world.seen state
commit-stands block at world contents state committed is stand = record {
  contents = contents;
  holds = record {
    area = applied world.seen;
    stands = (committed.ready.journal, refl);
    holds = is;
    page = λ range. committed.page (subst IsInRange (sym (ap (λ (c : Contents). c.block) is) ∙ committed.head) range);
    version1 = subst (λ (b : Superblock). IsVersion1Page b (page_bytes (applied world.seen) 0)) (sym committed.head ∙ ap (λ (c : Contents). c.block) is) committed.version1;
  };
  stand = stand;
}

-- and a crash at any moment of it leaves the state before it or that one
pub commit-leaves : (block : Superblock) (at : ℕ) (old new : World) (contents : Contents) (before after : states.Contents) → IsCommitted block at old → Stands old.seen before → PagesStand contents.block contents.pages after
    → LeavesOnly old new (HoldsOneOf (contents_in (applied old.seen)) contents old) → LeavesOnly old new (LeavesOneOf before after old)
commit-leaves block at old new contents before after committed stands stand leaves = within leaves (λ image said left. (
  ⊎_elim
      (λ is. inl (contents-stand image (contents_in (applied old.seen)) before (area-contents block at old before committed stands) is))
      (λ is. inr (contents-stand image contents after stand is))
      left.0,
  left.1,
))

-- pages that are told stand for what they stand for
pub told-stand : (readable : Bool) (area : ℕ → ℕ) (overlay : Overlay) (block : Superblock) (state : states.Contents) → readable ≡ true
    → PagesStand block (counted_pages block.counted (shown readable area overlay)) state → PagesStand block (counted_pages block.counted (shown true area overlay)) state
told-stand readable area overlay block state told stand = subst (λ (b : Bool). PagesStand block (counted_pages block.counted (shown b area overlay)) state) told stand

-- what stands for a state does so after calls that only read
pub rest-stands : (old mid : World) (state : states.Contents) → Rests old mid → Stands old.seen state → Stands mid.seen state
rest-stands old mid state rests stands = subst (λ (image : Image). Stands image state) (sym rests.seen) stands

-- and a commit after them leaves what it would have left
pub rest-leaves : (old mid new : World) (before after : states.Contents) → Rests old mid → LeavesOnly mid new (LeavesOneOf before after mid) → LeavesOnly old new (LeavesOneOf before after old)
rest-leaves old mid new before after rests leaves = then (rested rests.adds) (within leaves (λ image said left. (left.0, left.1 ∙ rests.said)))
