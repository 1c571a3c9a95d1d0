-- Lines that only ask, and what is read for them.
use Rattle.std.proofs.Common.{◌≡◌, Bool, ℕ, zero, suc, List, [], ◌∷◌, ◌++◌, refl, sym, ap, subst, ◌∙◌, arith}
use Rattle.std.specs.Prelude.{Result, Ok, Err, Contains}
use Rattle.std.proofs.lemmas.List.Elements.{Contains-append_left, Contains-append_right}
use Rattle.disk_model.specs.World.{World, Image}
use Rattle.place_values.specs.State.{Contents}
use Rattle.place_values.specs.declared.query.Query.{Query}
use Rattle.query_lang.specs.Line.{line_of}
use Rattle.query_lang.specs.Plain.{plain_line}
use Rattle.query_lang.specs.declared.line.Line.{Line}
use Rattle.query_lang.specs.declared.line.Line.TheVariants.{Nothing, Do, Ask, Show, Count}
use Rattle.query_replies.specs.declared.fault.LineFault.{LineFault}
use Rattle.irtree_engine.specs.Queries.{EachRead, IsReadForQuery, contents_held}
use Rattle.irtree_engine.proofs.EachRead.{reads-by, reads-none, reads-then}
use Rattle.run_outcome.specs.Asking.{AreAsking, IsAsking, IsReadFor, IsReadForOneOf, ReadsForLine, ReadsForLines}
use Rattle.run_outcome.specs.Script.{script, state_after, turn}

-- ---- lines in two parts

-- the first ones only ask
pub asking-first : (first next : List (List ℕ)) → AreAsking (first ++ next) → AreAsking first
asking-first [] next asks = tt
asking-first (line ∷ first) next asks = (asks.0, asking-first first next asks.1)

-- so do those behind them
pub asking-next : (first next : List (List ℕ)) → AreAsking (first ++ next) → AreAsking next
asking-next [] next asks = asks
asking-next (line ∷ first) next asks = asking-next first next asks.1

-- ---- the state stays

-- a line that only asks leaves it
stays-one : (state : Contents) (read : Result Line LineFault) → IsAsking read → state_after state read ≡ state
stays-one state (Ok Nothing) asks = refl
stays-one state (Ok (Do update)) asks = absurd asks
stays-one state (Ok (Ask query explain)) asks = refl
stays-one state (Ok (Show key)) asks = absurd asks
stays-one state (Ok Count) asks = refl
stays-one state (Err fault) asks = refl

-- and so do many
pub stays : (state : Contents) (lines : List (List ℕ)) → AreAsking lines → (script state lines).state ≡ state
unfolding script turn
stays state [] asks = refl
stays state (line ∷ lines) asks = ap (λ (s : Contents). (script s lines).state) (stays-one state (line_of line) asks.0) ∙ stays state lines asks.1

-- ---- reads

-- none was taken
pub reads-nothing : (state : Contents) (lines : List (List ℕ)) (now : World) → ReadsForLines state lines now now
reads-nothing state lines now = (refl, reads-none (IsReadForOneOf (contents_held now.seen) state lines) now now refl)

-- none was taken for a line, but for what it says
pub line-unread : (state : Contents) (read : Result Line LineFault) (now : World) → ReadsForLine state read now now
line-unread state read now = (refl, reads-none (IsReadFor (contents_held now.seen) state read) now now refl)

-- what was read for a query was read for its line
pub asked-reads : (state : Contents) (query : Query) (explain : Bool) (old new : World) → new.seen ≡ old.seen → EachRead (IsReadForQuery (contents_held old.seen) state query) old new → ReadsForLine state (Ok (plain_line (Ask query explain))) old new
asked-reads state query explain old new seen reads =
    let held = contents_held old.seen in
    (seen, reads-by (IsReadForQuery held state query) (IsReadFor held state (Ok (plain_line (Ask query explain)))) old new (λ r page. record { query = query; explain = explain; is = refl; page = page }) reads)

-- for lines in two parts
pub reads-both : (state : Contents) (first next : List (List ℕ)) (old now new : World) → AreAsking first → ReadsForLines state first old now → ReadsForLines (script state first).state next now new → ReadsForLines state (first ++ next) old new
reads-both state first next old now new asks before behind =
    let held = contents_held old.seen in
    let both = IsReadForOneOf held state (first ++ next) in
    let one = reads-by (IsReadForOneOf held state first) both old now
    (λ r read. record { line = read.line; among = Contains-append_left first next read.line read.among; page = read.page }) before.1 in
    let same = subst (λ (i : Image). EachRead (IsReadForOneOf (contents_held i) state next) now new) before.0
    (subst (λ (s : Contents). EachRead (IsReadForOneOf (contents_held now.seen) s next) now new) (stays state first asks) behind.1) in
    let other = reads-by (IsReadForOneOf held state next) both now new
    (λ r read. record { line = read.line; among = Contains-append_right first next read.line read.among; page = read.page }) same in
    (behind.0 ∙ before.0, reads-then both old now new one other)

-- a line is among itself
among-itself : (line : List ℕ) → Contains (line ∷ []) line
among-itself line = (0, omega arith, refl)

-- and alone there
among-one : (line other : List ℕ) → Contains (line ∷ []) other → line ≡ other
among-one line other (zero, within, is) = is
among-one line other (suc k, within, is) = absurd (omega arith)

-- what was read for a line was read for one of it, and then its reply was said
pub reads-said : (state : Contents) (line : List ℕ) (old now new : World) → ReadsForLine state (line_of line) old now → new.seen ≡ now.seen → new.reads ≡ now.reads → ReadsForLines state (line ∷ []) old new
reads-said state line old now new before seen none =
    let held = contents_held old.seen in
    let of_one = IsReadForOneOf held state (line ∷ []) in
    let one = reads-by (IsReadFor held state (line_of line)) of_one old now (λ r read. record { line = line; among = among-itself line; page = read }) before.1 in
    (seen ∙ before.0, reads-then of_one old now new one (reads-none of_one now new none))

-- two lines that stand for one are read for alike
pub reads-alike : (state : Contents) (line other : List ℕ) (old new : World) → line_of line ≡ line_of other → ReadsForLines state (line ∷ []) old new → ReadsForLines state (other ∷ []) old new
reads-alike state line other old new same reads =
    let held = contents_held old.seen in (
      reads.0,
      reads-by (IsReadForOneOf held state (line ∷ [])) (IsReadForOneOf held state (other ∷ [])) old new (λ r read. record {
        line = other;
        among = among-itself other;
        page = subst (λ (l : Result Line LineFault). IsReadFor held state l r) (ap line_of (sym (among-one line read.line read.among)) ∙ same) read.page;
      }) reads.1,
    )

-- and ask alike
pub asking-alike : (line other : List ℕ) → line_of line ≡ line_of other → AreAsking (other ∷ []) → AreAsking (line ∷ [])
asking-alike line other same asks = (subst IsAsking (sym same) asks.0, tt)
