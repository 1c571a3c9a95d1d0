-- Bytes that are said piece by piece.
use Rattle.std.proofs.Common.{◌≡◌, ℕ, ◌+◌, ◌≤◌, List, ◌++◌, take, drop, length, refl, sym, ap, ◌∙◌}
use Rattle.std.proofs.lemmas.List.{append-nil, take_all}
use Rattle.std.specs.Prelude.{Result, Ok, Err}
use Rattle.disk_model.specs.declared.disk.Failed.{Failed}
use Rattle.disk_model.specs.World.{World, LeavesOnly, LeavesOnlySeen, HasSaid}
use Rattle.disk_model.proofs.Moments.{started, then, within}
use Rattle.run_outcome.specs.Said.{SaysFrontOf, SaysAll}
use Rattle.run_outcome.proofs.Fronts.{front-more}

-- So many of the bytes were said. The image stays, and a crash meanwhile left it and a front of the bytes.
pub record SaysSome (at : ℕ) (bytes : List ℕ) (old now : World) : Type 0 where
  pub said : now.said ≡ old.said ++ take at bytes
  pub seen : now.seen ≡ old.seen
  pub left : LeavesOnly old now (λ image said. (image ≡ old.seen) × SaysFrontOf bytes old.said said)

-- none of them was said yet
pub says-none : (bytes : List ℕ) (world : World) → SaysSome 0 bytes world world
says-none bytes world = record { said = sym (append-nil world.said); seen = refl; left = started world }

module _ (at : ℕ) (bytes rest : List ℕ) (old now new : World) (so_far : SaysSome at bytes old now) (safe : LeavesOnlySeen now) (behind : rest ≡ drop at bytes) where
  -- a crash during the next call left the image and a longer front
  says-left : {result : Result ℕ Failed} → HasSaid rest now new result → LeavesOnly old new (λ image said. (image ≡ old.seen) × SaysFrontOf bytes old.said said)
  says-left says = then so_far.left (within says.time.adds (λ image said saying.
      (safe image saying.0 ∙ so_far.seen, (at + saying.1.0, front-more bytes rest old.said now.said said at saying.1.0 behind so_far.said saying.1.1))))

  -- some more were said
  pub says-more : (n : ℕ) → HasSaid rest now new (Ok n) → SaysSome (at + n) bytes old new
  says-more n says = record {
    said = front-more bytes rest old.said now.said new.said at n behind so_far.said says.said;
    seen = says.seen ∙ so_far.seen;
    left = says-left says;
  }

  -- the station failed, behind a front
  pub says-failed : (T : Type 0) (failed : Failed) → HasSaid rest now new (Err failed) → SaysAll {T = T} bytes old new (Err failed)
  says-failed T failed says = record {
    all = tt;
    front = (at + says.said_err.0, front-more bytes rest old.said now.said new.said at says.said_err.0 behind so_far.said says.said_err.1);
    seen = says.seen ∙ so_far.seen;
    left = says-left says;
  }

-- all of them were said
pub says-all : {T : Type 0} (E : Type 0) (at : ℕ) (bytes : List ℕ) (old new : World) (value : T) → length bytes ≤ at → SaysSome at bytes old new → SaysAll {E = E} bytes old new (Ok value)
says-all E at bytes old new value whole so_far = record {
  all = so_far.said ∙ ap (λ b. old.said ++ b) (take_all at bytes whole);
  front = (at, so_far.said);
  seen = so_far.seen;
  left = so_far.left;
}
