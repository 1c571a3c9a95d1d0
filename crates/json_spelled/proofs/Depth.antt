-- Only brackets are judged by the number of levels.
use Rattle.std.proofs.Common.{◌≡◌, ◌<◌, ℕ, List, [], ◌∷◌, Bool, true, false, cond, Option, Some, None, refl, sym, ◌∙◌, arith, nat_eq}
use Rattle.std.specs.Prelude.{⊤}
use Rattle.json_spelled.specs.Json.{Json, spelled}
use Rattle.json_spelled.specs.Kind.{kind}
use Rattle.json_spelled.specs.Machine as machine
use Rattle.json_spelled.specs.Machine.{Frame, InList, InObject, Place, Start, Mark1, FirstItem, State, Between, InNumber, deliver, may_end, goes_on, number_step, step_delivered, between, begin, first_item, step_by, step}
use Rattle.json_spelled.specs.declared.kind.Kind.{Kind}
use Rattle.json_spelled.specs.declared.kind.Kind.TheVariants as kinds
use Rattle.json_spelled.specs.declared.lexeme.Part.{Part}
use Rattle.json_spelled.proofs.ByteKinds.{IsOf, kind_is}

-- no bracket that opens a level
abbrev OpensNone : Kind → Type 0
OpensNone kinds.OpenList = ⊥
OpensNone kinds.OpenObject = ⊥
OpensNone _ = ⊤

-- a value begins alike, however many levels are allowed
same_begin : (levels more : ℕ) (frames : List Frame) (byte : ℕ) (k : Kind) → OpensNone k → begin levels frames k byte ≡ begin more frames k byte
same_begin levels more frames byte kinds.OpenList h = absurd h
same_begin levels more frames byte kinds.OpenObject h = absurd h
same_begin levels more frames byte _ h = refl

-- so does the first item of an array
same_first : (levels more : ℕ) (frames : List Frame) (byte : ℕ) (k : Kind) → OpensNone k → first_item levels frames k byte ≡ first_item more frames k byte
same_first levels more frames byte kinds.Blank h = refl
same_first levels more frames byte kinds.Break h = refl
same_first levels more frames byte kinds.CloseList h = refl
same_first levels more frames byte k h = same_begin levels more (InList [] ∷ frames) byte k h

-- a choice is alike where its second part is
same_start : (a b c : Option State) (test : Bool) → b ≡ c → cond test a b ≡ cond test a c
same_start a b c true e = refl
same_start a b c false e = e

-- so is each step where no token is open
same_place : (levels more : ℕ) (place : Place) (frames : List Frame) (byte : ℕ) (k : Kind) → OpensNone k → between levels place frames k byte ≡ between more place frames k byte
same_place levels more Start frames byte k h = same_start (Some (Between Mark1 frames)) (begin levels frames k byte) (begin more frames k byte) (nat_eq byte 239) (same_begin levels more frames byte k h)
same_place levels more machine.Value frames byte k h = same_begin levels more frames byte k h
same_place levels more FirstItem frames byte k h = same_first levels more frames byte k h
same_place levels more _ frames byte k h = refl

-- so is each step behind a delivered value
same_delivered : (levels more : ℕ) (value : Json) (frames : List Frame) (byte : ℕ) (k : Kind) → step_delivered levels (deliver value frames) k byte ≡ step_delivered more (deliver value frames) k byte
same_delivered levels more value [] byte k = refl
same_delivered levels more value (InList items ∷ frames) byte k = refl
same_delivered levels more value (InObject members name ∷ frames) byte k = refl

-- a choice of a state or none is alike where the state is
same_end : (a b : Option State) (test : Bool) → a ≡ b → cond test a None ≡ cond test b None
same_end a b true e = e
same_end a b false e = refl

-- so is each step of a number
pub same_number : (levels more : ℕ) (o : Option Part) (part : Part) (token : List ℕ) (frames : List Frame) (byte : ℕ) (k : Kind) → number_step levels o part token frames k byte ≡ number_step more o part token frames k byte
same_number levels more (Some next) part token frames byte k = refl
same_number levels more None part token frames byte k = same_end (step_delivered levels (deliver (spelled token) frames) k byte) (step_delivered more (deliver (spelled token) frames) k byte) (may_end part) (same_delivered levels more (spelled token) frames byte k)

-- each step but that of an opening bracket is alike, however many levels are allowed
same_step : (levels more : ℕ) (state : State) (byte : ℕ) (k : Kind) → OpensNone k → step_by levels state k byte ≡ step_by more state k byte
same_step levels more (Between place frames) byte k h = same_place levels more place frames byte k h
same_step levels more (InNumber part token frames) byte k h = same_number levels more (goes_on part k) part token frames byte k
same_step levels more _ byte k h = refl

-- what some levels refuse and others take is an opening bracket
by_kind : (levels more : ℕ) (state next : State) (byte : ℕ) (k : Kind) → IsOf byte k → step_by levels state k byte ≡ None → step_by more state k byte ≡ Some next → byte < 128
by_kind levels more state next byte kinds.OpenList of stuck some = omega arith
by_kind levels more state next byte kinds.OpenObject of stuck some = omega arith
by_kind levels more state next byte k of stuck some = let no : None ≡ Some next = sym stuck ∙ same_step levels more state byte k tt ∙ some in absurd (cc no)

-- what some levels refuse and others don't is an ASCII byte
pub deep_small : (levels more : ℕ) (state next : State) (byte : ℕ) → step levels state byte ≡ None → step more state byte ≡ Some next → byte < 128
deep_small levels more state next byte stuck some = by_kind levels more state next byte (kind byte) (kind_is byte) stuck some
