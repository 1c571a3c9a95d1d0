-- Page 0's numbers over the calls of a load, and what a limit says of the text.
use Rattle.std.proofs.Common.{◌≡◌, ℕ, ◌+◌, ◌≤◌, List, [], ◌∷◌, length, map, refl, ap, sym, subst, ◌∙◌, arith}
use Rattle.std.specs.Prelude.{Option, Result, Ok, Err, OnOk, IfErr, IsErrOf}
use Rattle.page_face.specs.declared.head.Head.{Head}
use Rattle.geojson_points.specs.Takes.{Item, Placed, Skipped, item_of}
use Rattle.geojson_points.specs.declared.taken.Taken.{Taken}
use Rattle.irtree_engine.specs.Updates.{IsAtLimit}
use Rattle.irtree_engine.specs.declared.fault.EngineFault.{EngineFault}
use Rattle.irtree_engine.specs.declared.fault.EngineFault.TheVariants as engine
use Rattle.run_outcome.specs.Causes.{end_of_engine}
use Rattle.run_outcome.specs.Load.{IsTaken, ReachesLimit, places_among}
use Rattle.run_outcome.specs.declared.ended.Ended.{Ended}
use Rattle.run_outcome.specs.declared.ended.Ended.TheVariants as ends
use Rattle.run_outcome.specs.declared.ended.LimitFault.{LimitFault}
use Rattle.run_outcome.specs.declared.ended.LimitFault.TheVariants as limits
use Rattle.load_run.specs.declared.load.Load.{Load}
use Rattle.load_run.specs.Loading.{HasStored, IsLimitAt, RisesBy}

-- ---- the room left

-- a call of the engine that ends a run for want of room was refused for that
pub ended-full : (fault : EngineFault) → end_of_engine fault ≡ ends.Limit limits.NoRoom → fault ≡ engine.NoRoom
ended-full engine.NoRoom is = refl
ended-full engine.Full is = absurd (cc)
ended-full engine.Worn is = absurd (cc)
ended-full engine.Disk is = absurd (cc)
ended-full engine.NotAStore is = absurd (cc)
ended-full engine.Version1 is = absurd (cc)
ended-full (engine.BadJournal at) is = absurd (cc)
ended-full (engine.Damaged damage) is = absurd (cc)
ended-full engine.Stopped is = absurd (cc)
ended-full engine.Memory is = absurd (cc)

-- saying text ends none for want of room
pub said-room : {T : Type 0} (result : Result T Ended) → IfErr result (λ (end : Ended). end ≡ ends.Sink) → IsErrOf result (ends.Limit limits.NoRoom) → ⊥
said-room (Ok done) sink is = absurd (cc)
said-room (Err end) sink is = absurd (cc)

-- ---- limits

-- greater numbers reach a limit, too
pub limit-more : (live number live_more number_more : ℕ) (end : Ended) → live ≤ live_more → number ≤ number_more → IsLimitAt live number end → IsLimitAt live_more number_more end
limit-more live number live_more number_more (ends.Limit limits.Full) more other reaches = omega (arith, reaches, more)
limit-more live number live_more number_more (ends.Limit limits.Worn) more other reaches = omega (arith, reaches, other)
limit-more live number live_more number_more _ more other reaches = tt

-- a limit that the engine met
pub limit-of-engine : (live number : ℕ) (fault : EngineFault) → IsAtLimit live number fault → IsLimitAt live number (end_of_engine fault)
limit-of-engine live number engine.Full reaches = reaches
limit-of-engine live number engine.Worn reaches = reaches
limit-of-engine live number _ reaches = tt

-- a limit that the places of a text reach
pub limit-reaches : (live number : ℕ) (only : Option (List ℕ)) (input : List ℕ) (items : List Item) (fault : LimitFault) → IsTaken only input (Ok items) → IsLimitAt (live + (0 + places_among items)) (number + (0 + places_among items)) (ends.Limit fault) → ReachesLimit fault live number only input
limit-reaches live number only input items limits.Full is reaches = (items, is, omega (arith, reaches))
limit-reaches live number only input items limits.Worn is reaches = (items, is, omega (arith, reaches))
limit-reaches live number only input items limits.NoRoom is reaches = tt

-- ---- calls

module _ {T : Type 0} (count waits_old waits_new : ℕ) (old : Head) where
  -- memory is wanting
  pub rises-lacks : (new : Head) (end : Ended) → end ≡ ends.Memory → RisesBy {T = T} count waits_old waits_new old new (Err end)
  rises-lacks new end is = record { live = tt; number = tt; limit = subst (IsLimitAt (old.live + (waits_old + count)) (old.number + (waits_old + count))) (sym is) tt }

  -- what was said leaves the numbers
  pub rises-said : (now new : Head) (result : Result T Ended) → now.live + waits_new ≤ old.live + (waits_old + count) → now.number + waits_new ≤ old.number + (waits_old + count)
      → new ≡ now → IfErr result (λ end. end ≡ ends.Sink) → RisesBy count waits_old waits_new old new result
  rises-said now new (Ok done) live number same sink = record { live = omega (arith, live, ap (λ (h : Head). h.live) same); number = omega (arith, number, ap (λ (h : Head). h.number) same); limit = tt }
  rises-said now new (Err end) live number same sink = record { live = tt; number = tt; limit = subst (IsLimitAt (old.live + (waits_old + count)) (old.number + (waits_old + count))) (sym sink) tt }

  -- as many places, of which others waited
  pub rises-within : (more waits : ℕ) (new : Head) (result : Result T Ended) → waits_old + count ≤ waits + more → RisesBy count waits_old waits_new old new result → RisesBy more waits waits_new old new result
  rises-within more waits new (Ok done) within rises = record { live = omega (arith, rises.live, within); number = omega (arith, rises.number, within); limit = tt }
  rises-within more waits new (Err end) within rises = record { live = tt; number = tt; limit = limit-more _ _ _ _ end (omega (arith, within)) (omega (arith, within)) rises.limit }

  -- one call behind another
  pub rises-then : {U : Type 0} (value : U) (more waits_last : ℕ) (mid new : Head) (result : Result T Ended) → RisesBy count waits_old waits_new old mid (Ok value) → RisesBy more waits_new waits_last mid new result
      → RisesBy (count + more) waits_old waits_last old new result
  rises-then value more waits_last mid new (Ok done) first next = record { live = omega (arith, first.live, next.live); number = omega (arith, first.number, next.number); limit = tt }
  rises-then value more waits_last mid new (Err end) first next = record { live = tt; number = tt; limit = limit-more _ _ _ _ end (omega (arith, first.live)) (omega (arith, first.number)) next.limit }

-- a place that fills a batch, which is stored
pub rises-stored : {T : Type 0} (count waits : ℕ) (old new : Head) (mid last : Load) (result : Result T Ended) → count ≡ waits + 1 → mid.waiting.items ≡ [] → OnOk result (HasStored count mid last) → RisesBy count 0 0 old new result
    → RisesBy 1 waits (length last.waiting.items) old new result
rises-stored count waits old new mid last (Ok done) full none stored rises =
    let empty : length last.waiting.items ≡ 0 = ap length stored.waiting ∙ ap length none in
    record { live = omega (arith, rises.live, full, empty); number = omega (arith, rises.number, full, empty); limit = tt }
rises-stored count waits old new mid last (Err end) full none stored rises = record { live = tt; number = tt; limit = limit-more _ _ _ _ end (omega (arith, full)) (omega (arith, full)) rises.limit }

-- ---- items

-- the places of one item, and of those behind it
places-first : (item : Item) (items : List Item) → places_among (item ∷ items) ≡ places_among (item ∷ []) + places_among items
places-first (Placed place) items = omega arith
places-first (Skipped index reason) items = omega arith

module _ {T : Type 0} (all waits : ℕ) (left : List Taken) (old now new : Head) (result : Result T Ended) (sofar : RisesBy {T = Unit {0}} all 0 (waits + places_among (map item_of left)) old now (Ok tt)) where
  -- one item more was acted on, in front of others
  pub rises-item : (waits_new : ℕ) (item : Taken) (rest : List Taken) → left ≡ item ∷ rest → RisesBy (places_among (item_of item ∷ [])) waits waits_new now new result → RisesBy all 0 (waits_new + places_among (map item_of rest)) old new result
  rises-item waits_new item rest is next =
      let parts = ap (λ (l : List Taken). places_among (map item_of l)) is ∙ places-first (item_of item) (map item_of rest) in
      by_result result next parts
    where
      by_result : (result : Result T Ended) → RisesBy (places_among (item_of item ∷ [])) waits waits_new now new result → places_among (map item_of left) ≡ places_among (item_of item ∷ []) + places_among (map item_of rest)
          → RisesBy all 0 (waits_new + places_among (map item_of rest)) old new result
      by_result (Ok done) next parts = record { live = omega (arith, sofar.live, next.live, parts); number = omega (arith, sofar.number, next.number, parts); limit = tt }
      by_result (Err end) next parts = record { live = tt; number = tt; limit = limit-more _ _ _ _ end (omega (arith, sofar.live, parts)) (omega (arith, sofar.number, parts)) next.limit }

  -- all were
  pub rises-last : RisesBy 0 waits 0 now new result → RisesBy all 0 0 old new result
  rises-last next = by_result result next
    where
      by_result : (result : Result T Ended) → RisesBy 0 waits 0 now new result → RisesBy all 0 0 old new result
      by_result (Ok done) next = record { live = omega (arith, sofar.live, next.live); number = omega (arith, sofar.number, next.number); limit = tt }
      by_result (Err end) next = record { live = tt; number = tt; limit = limit-more _ _ _ _ end (omega (arith, sofar.live)) (omega (arith, sofar.number)) next.limit }
