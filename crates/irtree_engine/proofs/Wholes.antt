-- A store that is committed is whole exactly if its image holds a state.
use Rattle.std.proofs.Common.{◌≡◌, ◌↔◌, ℕ, refl, sym, ap, subst, ◌∙◌}
use Rattle.disk_model.specs.World.{World}
use Rattle.page_journal.specs.Record.{applied}
use Rattle.page_store.specs.Contents as stores
use Rattle.page_store.specs.Contents.{IsCommitted, IsVersion1Page, contents_in, page_bytes}
use Rattle.page_store.specs.Superblock.{IsInRange}
use Rattle.page_store.specs.declared.superblock.Superblock.{Superblock}
use Rattle.store_model.proofs.Images.{area-one}
use Rattle.store_verify.specs.Whole.{IsWhole}
use Rattle.store_verify.proofs.Whole.{stands-whole, whole-stands}
use Rattle.irtree_engine.specs.Queries.{contents_held}
use Rattle.irtree_engine.specs.Verified.{HoldsSome}

module _ (world : World) (last : Superblock) (end : ℕ) (committed : IsCommitted last end world) where
  -- what the image holds is what its pages hold, with the journal applied
  held : stores.HoldsContents (contents_held world.seen) world.seen
  held = record {
    area = applied world.seen;
    stands = (committed.ready.journal, refl);
    holds = refl;
    page = λ range. committed.page (subst IsInRange committed.head range);
    version1 = subst (λ (b : Superblock). IsVersion1Page b (page_bytes (applied world.seen) 0)) (sym committed.head) committed.version1;
  }

  -- if that is whole, the image holds a state
  whole-some : IsWhole (contents_held world.seen).block (contents_held world.seen).pages → HoldsSome world.seen
  whole-some whole = whole-stands (contents_held world.seen) world.seen held whole

  -- if the image holds a state, that is whole
  some-whole : HoldsSome world.seen → IsWhole (contents_held world.seen).block (contents_held world.seen).pages
  some-whole some =
      let stands = some.1 in
      let area = area-one world.seen stands.holds.area (applied world.seen) stands.holds.stands (committed.ready.journal, refl) in
      let is : stands.contents ≡ contents_held world.seen = sym stands.holds.holds ∙ ap contents_in area in
      subst (λ (c : stores.Contents). IsWhole c.block c.pages) is (stands-whole world.seen some.0 stands)

  -- what holds exactly if page 0's fields and the pages are whole holds exactly if the image holds a state
  pub whole-exact : {A : Type 0} (contents : stores.Contents) → contents ≡ contents_held world.seen → A ↔ IsWhole contents.block contents.pages → A ↔ HoldsSome world.seen
  whole-exact {A} contents is exact =
      let here : A ↔ IsWhole (contents_held world.seen).block (contents_held world.seen).pages = subst (λ (c : stores.Contents). A ↔ IsWhole c.block c.pages) is exact in
      (λ a. whole-some (here.0 a), λ some. here.1 (some-whole some))
