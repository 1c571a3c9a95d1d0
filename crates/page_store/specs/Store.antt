-- How the calls of a store leave its disk.
use Rattle.std.specs.Prelude.{◌≡◌, ◌⊎◌, ℕ, ◌*◌, ◌≤◌, Bool, IsTrue, List, [], ◌∷◌, ◌++◌, Contains}
use Rattle.std.proofs.Common.{refl, sym, subst, ap, ◌∙◌, arith, append_assoc}
use Rattle.std.proofs.lemmas.List.{append-nil}
use Rattle.std.proofs.lemmas.List.Elements.{Contains-append_left, Contains-append_right}
use Rattle.std.specs.List.{AllByRecursion}
use Rattle.disk_model.proofs.Moments.{started, then}
use Rattle.std.specs.Borrow.{MutBor}
use Rattle.disk_model.specs.World.{World, Image, Range, LeavesOnly, Nothing}
use Rattle.disk_model.specs.declared.disk.Area.TheVariants.{Pages}
use Rattle.page_face.specs.declared.head.Head.{Head}
use Rattle.page_store.specs.Contents.{Overlay}
use Rattle.page_store.specs.declared.superblock.Superblock.{Superblock}
use Rattle.page_store.specs.Takes.{Counts, Takes, takes_further, takes_nothing}

-- From old to new no area changed and nothing was said.
pub record Rests (old new : World) : Type 0 where
  pub seen : new.seen ≡ old.seen
  pub crash : (image : Image) → new.may_leave image → old.may_leave image
  pub adds : LeavesOnly old new Nothing
  pub said : new.said ≡ old.said

-- From old to new no area changed, nothing was said, and at most this page was read.
pub record ReadsPage (number : ℕ) (old new : World) : Type 0 where
  pub rests : Rests old new
  pub reads : (new.reads ≡ old.reads) ⊎ (new.reads ≡ old.reads ++ record { area = Pages; at = 4096 * number; len = 4096 } ∷ [])

-- what no call of the pages changes: the head as it stands, and page 0's fields as they were committed last
pub record Kept : Type 0 where
  pub head : Head
  pub last : Superblock

-- both, from page 0's fields as they stand
abbrev pub kept_of : Superblock → Superblock → Kept
kept_of current last = record { head = current.head; last = last }

-- The head stands as it did; the same loan, whose disk changed no area and said nothing; no count fell, and none outran the takes left.
pub record GoesOn {D : Type 0} (readable : Bool) (world : D → World) (room_of : D → ℕ) (kept_old kept_new : Kept) (counts_old counts_new : Counts) (old new : MutBor D) : Type 0 where
  pub kept : kept_new ≡ kept_old
  pub loan : new.ghost_name ≡ old.ghost_name
  pub room : room_of new.now ≡ room_of old.now
  pub faults : (world old.now).faults ≤ (world new.now).faults
  pub sink : (world new.now).sink_faults ≡ (world old.now).sink_faults
  pub rests : IsTrue readable → Rests (world old.now) (world new.now)
  pub takes : Takes (room_of old.now) counts_old counts_new

-- no call
pub rests_still : (now : World) → Rests now now
rests_still now = record { seen = refl; crash = λ image may. may; adds = started now; said = refl }

-- one run of calls after another
pub rests_then : {a b c : World} → Rests a b → Rests b c → Rests a c
rests_then ab bc = record {
  seen = bc.seen ∙ ab.seen;
  crash = λ image may. ab.crash image (bc.crash image may);
  adds = then ab.adds bc.adds;
  said = bc.said ∙ ab.said;
}

module _ {D : Type 0} (readable : Bool) (world : D → World) (room_of : D → ℕ) where
  -- nothing has gone on
  pub goes_nowhere : (kept : Kept) (counts : Counts) (a : MutBor D) → GoesOn readable world room_of kept kept counts counts a a
  goes_nowhere kept counts a = record {
    kept = refl;
    loan = refl;
    room = refl;
    faults = omega arith;
    sink = refl;
    rests = λ t. record { seen = refl; crash = λ image may. may; adds = started (world a.now); said = refl };
    takes = takes_nothing (room_of a.now) counts;
  }

  -- one thing after another
  pub goes_further : (kept_a kept_b kept_c : Kept) (counts_a counts_b counts_c : Counts) (a b c : MutBor D)
      → GoesOn readable world room_of kept_a kept_b counts_a counts_b a b → GoesOn readable world room_of kept_b kept_c counts_b counts_c b c
      → GoesOn readable world room_of kept_a kept_c counts_a counts_c a c
  goes_further kept_a kept_b kept_c counts_a counts_b counts_c a b c f g = record {
    kept = g.kept ∙ f.kept;
    loan = g.loan ∙ f.loan;
    room = g.room ∙ f.room;
    faults = omega (arith, f.faults, g.faults);
    sink = g.sink ∙ f.sink;
    rests = λ t. rests_then (f.rests t) (g.rests t);
    takes = takes_further (room_of a.now) counts_a counts_b counts_c f.takes (subst (λ (room : ℕ). Takes room counts_b counts_c) f.room g.takes);
  }

-- the read is of one of these pages, whole
abbrev pub IsReadOf : List ℕ → Range → Type 0
IsReadOf pages r = (r.area ≡ Pages) × ((n : ℕ) × Contains pages n × (r.at ≡ 4096 * n) × (r.len ≡ 4096))

-- the reads taken from old to new are all of these pages
pub record ReadsOnly (pages : List ℕ) (old new : World) : Type 0 where
  pub taken : List Range
  pub are : new.reads ≡ old.reads ++ taken
  pub each : AllByRecursion (IsReadOf pages) taken

-- More pages were asked for, and the reads taken meanwhile are all of those. The pages that wait for a commit are as they were.
pub record OnlyReads {D : Type 0} (readable : Bool) (world : D → World) (overlay_old overlay_new : Overlay) (asked_old asked_new : List ℕ) (old new : D) : Type 0 where
  pub overlay : overlay_new ≡ overlay_old
  pub more : List ℕ
  pub asked : asked_new ≡ asked_old ++ more
  pub reads : IsTrue readable → ReadsOnly more (world old) (world new)

-- reads of some pages, and then of others
joined_reads : (pages more : List ℕ) (taken later : List Range) → AllByRecursion (IsReadOf pages) taken → AllByRecursion (IsReadOf more) later → AllByRecursion (IsReadOf (pages ++ more)) (taken ++ later)
joined_reads pages more [] [] each behind = tt
joined_reads pages more [] (r ∷ later) each behind = ((behind.0.0, (behind.0.1.0, Contains-append_right pages more behind.0.1.0 behind.0.1.1, behind.0.1.2, behind.0.1.3)), joined_reads pages more [] later tt behind.1)
joined_reads pages more (r ∷ taken) later each behind = ((each.0.0, (each.0.1.0, Contains-append_left pages more each.0.1.0 each.0.1.1, each.0.1.2, each.0.1.3)), joined_reads pages more taken later each.1 behind)

module _ {D : Type 0} (readable : Bool) (world : D → World) where
  -- no read has gone on
  pub reads_nothing : (overlay : Overlay) (asked : List ℕ) (disk : D) → OnlyReads readable world overlay overlay asked asked disk disk
  reads_nothing overlay asked disk = record {
    overlay = refl;
    more = [];
    asked = sym (append-nil asked);
    reads = λ t. record { taken = []; are = sym (append-nil (world disk).reads); each = tt };
  }

  -- one read after another
  pub reads_further : (overlay_a overlay_b overlay_c : Overlay) (asked_a asked_b asked_c : List ℕ) (a b c : D)
      → OnlyReads readable world overlay_a overlay_b asked_a asked_b a b → OnlyReads readable world overlay_b overlay_c asked_b asked_c b c → OnlyReads readable world overlay_a overlay_c asked_a asked_c a c
  reads_further overlay_a overlay_b overlay_c asked_a asked_b asked_c a b c f g = record {
    overlay = g.overlay ∙ f.overlay;
    more = f.more ++ g.more;
    asked = g.asked ∙ ap (λ (l : List ℕ). l ++ g.more) f.asked ∙ append_assoc asked_a f.more g.more;
    reads = λ t. let first = f.reads t in let second = g.reads t in record {
      taken = first.taken ++ second.taken;
      are = second.are ∙ ap (λ (l : List Range). l ++ second.taken) first.are ∙ append_assoc (world a).reads first.taken second.taken;
      each = joined_reads f.more g.more first.taken second.taken first.each second.each;
    };
  }
