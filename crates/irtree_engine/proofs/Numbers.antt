-- The numbers of page 0 keep their ranges, update by update.
use Rattle.std.proofs.Common.{◌≡◌, ◌≢◌, ℕ, ◌+◌, ◌*◌, ◌≤◌, ◌^◌, List, [], ◌∷◌, length, Option, Some, None, option_map, refl, arith}
use Rattle.std.specs.Option.{IsSome}
use Rattle.spatial_base.specs.Key.{Name}
use Rattle.spatial_base.specs.Point.{Position}
use Rattle.page_face.specs.declared.head.Head.{Head}
use Rattle.place_values.specs.declared.update.Update.{Update}
use Rattle.place_values.specs.declared.update.Update.TheVariants.{Put, Remove}
use Rattle.store_model.specs.Ahead.{last_number, puts_in}
use Rattle.store_model.proofs.Batches.{puts-most}
use Rattle.irtree_engine.specs.Changes.{AreHeadNumbers, AreNumbersAhead}

-- what is there after a map was there before it
pub some-mapped : {T U : Type 0} (o : Option T) (f : T → U) → IsSome (option_map f o) → IsSome o
some-mapped None f none = none
some-mapped (Some x) f some = refl

-- where no words are held ahead it doesn't matter which updates are left
pub numbers-plain : (left left' : List Update) (head : Head) → AreNumbersAhead None left head → AreNumbersAhead None left' head
numbers-plain left left' head are = record { number = are.number; serial = are.serial; words = are.words; last = tt }

-- the last update number has its range, too
pub last-most : (held : Option (List (List ℕ × ℕ))) (left : List Update) (head : Head) → AreNumbersAhead held left head → last_number held left head.number ≤ 2 ^ 40
last-most None left head are = are.number
last-most (Some numbers) left head are = let all = are.last in omega (arith, all, puts-most left)

-- and so does the next word number
pub next-most : (held : Option (List (List ℕ × ℕ))) (left : List Update) (head : Head) → AreNumbersAhead held left head → head.next_word ≤ 64 * (2 ^ 40 + 1)
next-most held left head are = let most = last-most held left head are in let words = are.words in omega (arith, most, words)

-- words are held ahead, at most 64 for each Put
pub numbers-begun : (numbers : List (List ℕ × ℕ)) (updates : List Update) (head made : Head) → AreHeadNumbers head → head.number + length updates ≤ 2 ^ 40 → made.number ≡ head.number → made.serial ≡ head.serial
    → made.next_word ≤ head.next_word + 64 * puts_in updates → AreNumbersAhead (Some numbers) updates made
numbers-begun numbers updates head made are few number serial next =
    let most = are.number in
    let serials = are.serial in
    let words = are.words in
    record { number = omega (arith, number, most); serial = omega (arith, number, serial, serials); words = omega (arith, number, words, next); last = omega (arith, few, number) }

-- a place is put: its words take at most 64 numbers, and none where they were held ahead
pub numbers-put : (held : Option (List (List ℕ × ℕ))) (name : Option Name) (point : Position) (words : List (List ℕ × ℕ)) (label : List ℕ) (left : List Update) (head made : Head) → AreNumbersAhead held (Put name point words label ∷ left) head → head.number ≢ 2 ^ 40
    → made.number ≡ head.number + 1 → made.serial ≤ head.number + 2 → made.next_word ≤ head.next_word + 64 → (IsSome held → made.next_word ≡ head.next_word) → AreNumbersAhead held left made
numbers-put None name point words label left head made are less number serial next none =
    let most = are.number in
    let before = are.words in
    record { number = omega (arith, number, most, less); serial = omega (arith, number, serial); words = omega (arith, number, before, next); last = tt }
numbers-put (Some numbers) name point words label left head made are less number serial next none =
    let most = are.number in
    let before = are.words in
    let all = are.last in
    let same : made.next_word ≡ head.next_word = none refl in
    record { number = omega (arith, number, most, less); serial = omega (arith, number, serial); words = omega (arith, number, before, same); last = omega (arith, number, all) }

-- a place is removed
pub numbers-removed : (held : Option (List (List ℕ × ℕ))) (key : Name) (left : List Update) (head made : Head) → AreNumbersAhead held (Remove key ∷ left) head → head.number ≢ 2 ^ 40
    → made.number ≡ head.number + 1 → made.serial ≡ head.serial → made.next_word ≡ head.next_word → AreNumbersAhead held left made
numbers-removed None key left head made are less number serial next =
    let most = are.number in
    let serials = are.serial in
    let before = are.words in
    record { number = omega (arith, number, most, less); serial = omega (arith, number, serial, serials); words = omega (arith, number, before, next); last = tt }
numbers-removed (Some numbers) key left head made are less number serial next =
    let most = are.number in
    let serials = are.serial in
    let before = are.words in
    let all = are.last in
    record { number = omega (arith, number, most, less); serial = omega (arith, number, serial, serials); words = omega (arith, number, before, next); last = omega (arith, number, all) }

-- a removal that finds no place leaves page 0's fields
pub numbers-absent : (held : Option (List (List ℕ × ℕ))) (key : Name) (left : List Update) (head : Head) → AreNumbersAhead held (Remove key ∷ left) head → AreNumbersAhead held left head
numbers-absent None key left head are = record { number = are.number; serial = are.serial; words = are.words; last = tt }
numbers-absent (Some numbers) key left head are = let all = are.last in record { number = are.number; serial = are.serial; words = are.words; last = omega (arith, all) }

-- no update is left
pub numbers-ended : (held : Option (List (List ℕ × ℕ))) (left : List Update) (head : Head) → length left ≡ 0 → AreNumbersAhead held left head → AreHeadNumbers head
numbers-ended None left head none are = numbers-plain left [] head are
numbers-ended (Some numbers) [] head none are = let words = are.words in record { number = are.number; serial = are.serial; words = omega (arith, words); last = tt }
numbers-ended (Some numbers) (update ∷ left) head none are = absurd (omega (arith, none))
