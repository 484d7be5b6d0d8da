-- A trace that a board plays, turn by turn.
use Rattle.std.proofs.Common.{◌≡◌, ◌∙◌, ◌==◌, ◌⊎◌, inl, inr, ℕ, ◌+◌, ◌-◌, ◌*◌, ◌/◌, ◌%◌, ◌^◌, ◌<◌, ◌≤◌, Bool, true, false, cond, List, [], ◌∷◌, ◌++◌, length, take, drop, get_or, refl, ap, sym, subst, arith, append-nil, append_assoc}
use Rattle.std.specs.Prelude.{ℤ, pos, negsuc, ◌≤ℤ◌}
use Rattle.std.proofs.lemmas.Bool.Decides.{nat_tests}
use Rattle.std.proofs.lemmas.Int.{ints}
use Rattle.std.proofs.Math.Nat.{mul-le-mul}
use Rattle.arrayvec.specs.ArrayVec.{ArrayVec}
use Rattle.block_frame.specs.declared.Found.{Found}
use Rattle.block_frame.specs.declared.Found.TheVariants.{Block, Skip, NeedMore, Bad}
use Rattle.block_frame.specs.Scanned.{Scans}
use Rattle.block_frame.specs.Stream.{Reads}
use Rattle.plan_types.specs.Clock.{board_tick, clock_of, own_tick, rate, tick_limit}
use Rattle.plan_types.specs.Machines.{IsValidBoard}
use Rattle.plan_types.specs.declared.machine.BoardDef.{BoardDef}
use Rattle.plan_types.specs.declared.plan.BoardState.{BoardState}
use Rattle.plan_types.specs.declared.plan.Pulse.{Pulse}
use Rattle.plan_types.proofs.OwnTicks.{rise}
use Rattle.msg_dict.specs.Own.{own_formats}
use Rattle.msg_dict.specs.Dictionary.{Named}
use Rattle.msg_code.specs.declared.cmd.Cmd.{Cmd}
use Rattle.board_sim.specs.Rig.{Rig, new_rig, passes, takes_all}
use Rattle.board_sim.specs.Turn.{AreHeard, Expected, Heard, Holds, IsHeard, IsTurn, Noise, Other, Simulated, Station, accepted_commands, expected_after, hears_all}
use Rattle.board_sim.proofs.Hearing.{expected_is, takes_some, expected_append}
use Rattle.board_sim.proofs.Heeding.{heeds_all}
use Rattle.frame_dump.specs.declared.trace.TraceTurn.{TraceTurn}
use Rattle.frame_dump.specs.Things.{Thing, AreIn, all_taken, is_taken, taken_behind}
use Rattle.frame_dump.specs.Traces.{AreTurns}
use Rattle.frame_dump.specs.Replays.{AreGiven, Given, GiveAll, Gives, GivesContent, IsReplay, Played, plays, plays_to, with_pulses}
use Rattle.frame_dump.specs.Played.{PlayedSofar, PlaysTurn, StandsAt, run_until, plays_on}
use Rattle.frame_dump.proofs.Dumping.{next_number, split, at_end}
use Rattle.plan_types.proofs.Facts.{is_equal, not_equal}
use Rattle.msg_code.proofs.Parameters.{rest_all}

-- what was found, with how many bytes each thing takes
abbrev founds : List Thing → List Found
founds [] = []
founds (t ∷ ts) = t.found ∷ founds ts

things_of : (turn : ℕ) (d : Bool) (bytes : List ℕ) (fs : List Found) (left : List ℕ) (drops : Bool) → Reads d bytes fs left drops → (ts : List Thing) × AreIn turn d bytes ts left drops × (founds ts ≡ fs)
things_of turn d bytes [] left drops r = ([], r, refl)
things_of turn d bytes (f ∷ fs) left drops (count, next, some, scans, rest) =
    let more = things_of turn next (drop count bytes) fs left drops rest in
    (record { turn = turn; found = f; count = count } ∷ more.0, (next, refl, some, scans, more.1), ap (λ (l : List Found). f ∷ l) more.2)

-- what is found in no bytes
none_found : (f : Found) (count : ℕ) (next : Bool) → Scans false [] f count next → 0 < count → ⊥
none_found (Block n c) count next s some = let took = takes_some false [] (Block n c) count next s (λ e. cc) in omega (arith, took.1, some)
none_found Skip count next s some = let took = takes_some false [] Skip count next s (λ e. cc) in omega (arith, took.1, some)
none_found NeedMore count next s some = omega (arith, s.1, some)
none_found Bad count next s some = let took = takes_some false [] Bad count next s (λ e. cc) in omega (arith, took.1, some)

nothing_read : (fs : List Found) (left : List ℕ) (drops : Bool) → Reads false [] fs left drops → (fs ≡ []) × (left ≡ []) × (drops ≡ false)
nothing_read [] left drops r = (refl, r.1, r.0.2)
nothing_read (f ∷ fs) left drops (count, next, some, scans, rest) = absurd (none_found f count next scans some)

-- the commands that are taken
accepted_append : (xs ys : List Heard) → accepted_commands (xs ++ ys) ≡ accepted_commands xs ++ accepted_commands ys
accepted_append [] ys = refl
accepted_append (Expected cs ∷ xs) ys = ap (λ (l : List Cmd). cs ++ l) (accepted_append xs ys) ∙ sym (append_assoc cs (accepted_commands xs) (accepted_commands ys))
accepted_append (Other ∷ xs) ys = accepted_append xs ys
accepted_append (Noise ∷ xs) ys = accepted_append xs ys

-- what a thing gives, and how many blocks are taken behind it
record Heeds (taken e : ℕ) (f : Found) (hs : List Heard) : Type 0 where
  gives : Gives own_formats taken f (accepted_commands hs)
  number : expected_after e hs ≡ taken_behind taken f % 16

heeds : (taken e : ℕ) (f : Found) (hs : List Heard) → e ≡ taken % 16 → IsHeard e f hs → Heeds taken e f hs
heeds taken e (Block number content) hs same (inl (is, cs, holds, heard)) =
    let test : is_taken taken number ≡ true = is_equal number (taken % 16) (is ∙ same) in
    let commands : accepted_commands hs ≡ cs = ap accepted_commands heard ∙ append-nil cs in
    let At : Bool → Type 0 = λ b. GivesContent own_formats b content.items (accepted_commands hs) in
    let Of : List Cmd → Type 0 = λ l. Holds own_formats content.items l in
    record {
      gives = subst At (sym test) (subst Of (sym commands) holds);
      number = ap (expected_after e) heard ∙ ap (λ (n : ℕ). (n + 1) % 16) same ∙ next_number taken ∙ ap (λ (b : Bool). cond b (taken + 1) taken % 16) (sym test);
    }
heeds taken e (Block number content) hs same (inr (other, heard)) =
    let test : is_taken taken number ≡ false = not_equal number (taken % 16) (λ k. other (k ∙ sym same)) in
    let At : Bool → Type 0 = λ b. GivesContent own_formats b content.items (accepted_commands hs) in
    record {
      gives = subst At (sym test) (ap accepted_commands heard);
      number = ap (expected_after e) heard ∙ same ∙ ap (λ (b : Bool). cond b (taken + 1) taken % 16) (sym test);
    }
heeds taken e Skip hs same heard = record { gives = ap accepted_commands heard; number = ap (expected_after e) heard ∙ same }
heeds taken e NeedMore hs same heard = record { gives = ap accepted_commands heard; number = ap (expected_after e) heard ∙ same }
heeds taken e Bad hs same heard = record { gives = ap accepted_commands heard; number = ap (expected_after e) heard ∙ same }

record HeedsAll (taken e : ℕ) (ts : List Thing) (hs : List Heard) : Type 0 where
  gives : GiveAll own_formats taken ts (accepted_commands hs)
  number : expected_after e hs ≡ all_taken taken ts % 16

heeds_each : (taken e : ℕ) (ts : List Thing) (hs : List Heard) → e ≡ taken % 16 → AreHeard e (founds ts) hs → HeedsAll taken e ts hs
heeds_each taken e [] hs same none = record { gives = ap accepted_commands none; number = ap (expected_after e) none ∙ same }
heeds_each taken e (t ∷ ts) hs same (first, rest, is, others, joined) =
    let one = heeds taken e t.found first same is in
    let more = heeds_each (taken_behind taken t.found) (expected_after e first) ts rest one.number others in
    record {
      gives = (accepted_commands first, accepted_commands rest, ap accepted_commands joined ∙ accepted_append first rest, one.gives, more.gives);
      number = ap (expected_after e) joined ∙ expected_append e first rest ∙ more.number;
    }

-- a board passes to the turn that is next, and then goes on
with_both : (ps qs : List Pulse) (p : Played) → with_pulses ps (with_pulses qs p) ≡ with_pulses (ps ++ qs) p
with_both ps qs p = ap (λ (l : List Pulse). let q : Played = record { rig = p.rig; pulses = l } in q) (sym (append_assoc ps qs p.pulses))

with_end : (p : Played) → p ≡ with_pulses p.pulses (record { rig = p.rig; pulses = [] })
with_end p = ap (λ (l : List Pulse). let q : Played = record { rig = p.rig; pulses = l } in q) (sym (append-nil p.pulses))

plays_next : (b : BoardDef) (turn taken : ℕ) (d : Bool) (left : List ℕ) (turns : List TraceTurn) (gs : List Given) (r : Rig) → AreGiven own_formats taken d left turns gs
    → plays b turn r gs ≡ with_pulses (plays_to b (run_until turn turns) r).pulses (plays_on b (plays_to b (run_until turn turns) r).rig gs)
plays_next b turn taken d left [] gs r none =
    ap (plays b turn r) none ∙ with_end (plays_to b (turn + 1001) r) ∙ ap (λ (l : List Given). with_pulses (plays_to b (turn + 1001) r).pulses (plays_on b (plays_to b (turn + 1001) r).rig l)) (sym none)
plays_next b turn taken d left (t ∷ turns) [] r h = absurd h
plays_next b turn taken d left (t ∷ turns) (g ∷ gs) r (things, kept, drops, same, are, gives, rest) =
    ap (λ (k : ℕ). with_pulses (plays_to b k r).pulses (plays_on b (plays_to b k r).rig (g ∷ gs))) same

-- the first stretch, before any bytes come
pub played_none : (b : BoardDef) (turns : List TraceTurn) (s0 s : Simulated) (until : ℕ) (bytes : List ℕ) (xs ps : List Pulse) → bytes ≡ [] → xs ≡ []
    → s0 ≡ record { station = record { rig = new_rig b []; expected = 0; told = false }; dropping = false; left = [] } → until ≡ board_tick (clock_of b) (run_until 0 turns)
    → PlaysTurn s0 bytes until s xs ps → PlayedSofar b turns turns s ps
played_none b turns s0 s until bytes xs ps no_bytes no_pulses new at p =
    let first : Simulated = record { station = record { rig = new_rig b []; expected = 0; told = false }; dropping = false; left = [] } in
    let At : Simulated → Type 0 = λ o. IsTurn o bytes until s p.pulses p.blocks in
    let Bytes : List ℕ → Type 0 = λ l. IsTurn first l until s p.pulses p.blocks in
    let t : IsTurn first [] until s p.pulses p.blocks = subst Bytes no_bytes (subst At new p.turn) in
    let none = nothing_read t.found s.left s.dropping t.reads in
    let Read : List Found → Type 0 = λ fs. AreHeard 0 fs t.heard in
    let quiet : t.heard ≡ [] = subst Read none.0 t.are in
    let start = new_rig b [] in
    let to = run_until 0 turns in
    let station : s.station ≡ record { rig = (passes start until).rig; expected = 0; told = false } = t.station ∙ ap (λ (hs : List Heard). (stands hs)) quiet in
    let pulses : ps ≡ (plays_to b to start).pulses =
    p.added ∙ ap (λ (l : List Pulse). l ++ p.pulses) no_pulses ∙ t.pulses_are ∙ ap (λ (hs : List Heard). (passes (hears_all first.station hs).station.rig until).pulses) quiet ∙ ap (λ (k : ℕ). (passes start k).pulses) at in
    let rig : s.station.rig ≡ (plays_to b to start).rig = ap (λ (x : Station). x.rig) station ∙ ap (λ (k : ℕ). (passes start k).rig) at in
    let Drops : Bool → List Given → Type 0 = λ d gs. AreGiven own_formats 0 d s.left turns gs in
    let Left : List ℕ → List Given → Type 0 = λ l gs. AreGiven own_formats 0 false l turns gs in
    let clean : (gs : List Given) → AreGiven own_formats 0 s.dropping s.left turns gs → AreGiven own_formats 0 false [] turns gs = λ gs r. subst (λ (l : List ℕ). Left l gs) none.1 (subst (λ (d : Bool). Drops d gs) none.2 r) in
    record {
      given = [];
      taken = 0;
      expected = ap (λ (x : Station). x.expected) station;
      more = clean;
      same = λ gs r. plays_next b 0 0 false [] turns gs start (clean gs r) ∙ ap (λ (l : List Pulse). with_pulses l (plays_on b (plays_to b to start).rig gs)) (sym pulses)
          ∙ ap (λ (x : Rig). with_pulses ps (plays_on b x gs)) (sym rig);
    }
  where
    stands : List Heard → Station
    stands hs = let handled = (hears_all (record { rig = new_rig b []; expected = 0; told = false }) hs).station in record handled { rig = (passes handled.rig until).rig }

-- one turn more
turn_played : (b : BoardDef) (turns others : List TraceTurn) (t : TraceTurn) (s s' : Simulated) (until : ℕ) (ps qs : List Pulse) → PlayedSofar b turns (t ∷ others) s ps
    → until ≡ board_tick (clock_of b) (run_until t.turn others) → PlaysTurn s t.bytes until s' ps qs → PlayedSofar b turns others s' qs
turn_played b turns others t s s' until ps qs h at p =
    let i = p.turn in
    let read = things_of t.turn s.dropping (s.left ++ t.bytes) i.found s'.left s'.dropping i.reads in
    let things = read.0 in
    let Heard_of : List Found → Type 0 = λ fs. AreHeard s.station.expected fs i.heard in
    let all = heeds_each h.taken s.station.expected things i.heard h.expected (subst Heard_of (sym read.2) i.are) in
    let cs = accepted_commands i.heard in
    let g : Given = record { turn = t.turn; commands = cs } in
    let r0 = new_rig b [] in
    let r1 = (takes_all s.station.rig cs).rig in
    let taken = all_taken h.taken things in
    let to = run_until t.turn others in
    let gives : (gs : List Given) → AreGiven own_formats taken s'.dropping s'.left others gs → AreGiven own_formats h.taken s.dropping s.left (t ∷ others) (g ∷ gs) =
    λ gs r. (things, s'.left, s'.dropping, refl, read.1, all.gives, r) in
    let heard : (hears_all s.station i.heard).station.rig ≡ r1 = heeds_all s.station i.heard in
    let rig : s'.station.rig ≡ (plays_to b to r1).rig =
    ap (λ (x : Station). x.rig) i.station ∙ ap (λ (x : Rig). (passes x until).rig) heard ∙ ap (λ (k : ℕ). (passes r1 k).rig) at in
    let pulses : p.pulses ≡ (plays_to b to r1).pulses = i.pulses_are ∙ ap (λ (x : Rig). (passes x until).pulses) heard ∙ ap (λ (k : ℕ). (passes r1 k).pulses) at in
    record {
      given = h.given ++ g ∷ [];
      taken = taken;
      expected = ap (λ (x : Station). x.expected) i.station ∙ expected_is s.station i.heard ∙ all.number;
      more = λ gs r. let Whole : List Given → Type 0 = λ l. AreGiven own_formats 0 false [] turns l in
          subst Whole (sym (append_assoc h.given (g ∷ []) gs)) (h.more (g ∷ gs) (gives gs r));
      same = λ gs r.
          ap (plays b 0 r0) (append_assoc h.given (g ∷ []) gs)
          ∙ h.same (g ∷ gs) (gives gs r)
          ∙ ap (with_pulses ps) (plays_next b t.turn taken s'.dropping s'.left others gs r1 r)
          ∙ with_both ps (plays_to b to r1).pulses (plays_on b (plays_to b to r1).rig gs)
          ∙ ap (λ (l : List Pulse). with_pulses (ps ++ l) (plays_on b (plays_to b to r1).rig gs)) (sym pulses)
          ∙ ap (λ (l : List Pulse). with_pulses l (plays_on b (plays_to b to r1).rig gs)) (sym p.added)
          ∙ ap (λ (x : Rig). with_pulses qs (plays_on b x gs)) (sym rig);
    }

pub played_more : (b : BoardDef) (turns rest : List TraceTurn) (t : TraceTurn) (s s' : Simulated) (until : ℕ) (bytes : List ℕ) (ps qs : List Pulse) → PlayedSofar b turns rest s ps
    → 1 ≤ length rest → t ≡ get_or rest 0 t → bytes ≡ t.bytes → until ≡ board_tick (clock_of b) (run_until t.turn (take (length rest - 1) (drop 1 rest))) → PlaysTurn s bytes until s' ps qs
    → PlayedSofar b turns (take (length rest - 1) (drop 1 rest)) s' qs
played_more b turns rest t s s' until bytes ps qs h some is same at p =
    let others = drop 1 rest in
    let left : take (length rest - 1) (drop 1 rest) ≡ others = rest_all 1 rest in
    let Of : List TraceTurn → Type 0 = λ l. PlayedSofar b turns l s ps in
    let Bytes : List ℕ → Type 0 = λ l. PlaysTurn s l until s' ps qs in
    let At : List TraceTurn → Type 0 = λ l. PlayedSofar b turns l s' qs in
    subst At (sym left) (turn_played b turns others t s s' until ps qs (subst Of (split rest t some is) h) (at ∙ ap (λ (l : List TraceTurn). board_tick (clock_of b) (run_until t.turn l)) left) (subst Bytes same p))

pub played_all : (b : BoardDef) (turns rest : List TraceTurn) (s : Simulated) (ps : List Pulse) (state : BoardState) → PlayedSofar b turns rest s ps → length rest < 1 → state ≡ s.station.rig.controller.state
    → IsReplay b turns ps state
played_all b turns rest s ps state h none is =
    let Of : List TraceTurn → Type 0 = λ l. AreGiven own_formats h.taken s.dropping s.left l [] in
    let end : AreGiven own_formats h.taken s.dropping s.left rest [] = subst Of (sym (at_end rest none)) refl in
    let whole = h.same [] end in
    record {
      given = h.given ++ [];
      are = h.more [] end;
      pulses_are = sym (append-nil ps) ∙ ap (λ (p : Played). p.pulses) (sym whole);
      state_is = is ∙ ap (λ (p : Played). p.rig.controller.state) (sym whole);
    }

-- where a board stands
pub stands_next : (b : BoardDef) (tick turn : ℕ) (turns : List TraceTurn) → tick ≡ board_tick (clock_of b) (run_until turn turns) → StandsAt b tick turns
stands_next b tick turn [] at = tt
stands_next b tick turn (t ∷ turns) at = at

pub rise_next : (low : ℕ) (rest : List TraceTurn) → AreTurns low rest → (next : ℕ) × AreTurns next (take (length rest - 1) (drop 1 rest))
rise_next low [] h = (low, h)
rise_next low (t ∷ turns) h = let At : List TraceTurn → Type 0 = λ l. AreTurns (t.turn + 1) l in (t.turn + 1, subst At (sym (rest_all 1 (t ∷ turns))) h.2)

later_turn : (turn : ℕ) (turns : List TraceTurn) → AreTurns (turn + 1) turns → turn ≤ run_until turn turns
later_turn turn [] h = omega arith
later_turn turn (t ∷ turns) h = omega (arith, h.0)

pub later : (b : BoardDef) (tick low : ℕ) (rest : List TraceTurn) (t : TraceTurn) → StandsAt b tick rest → AreTurns low rest → 1 ≤ length rest → t ≡ get_or rest 0 t
    → tick ≤ board_tick (clock_of b) (run_until t.turn (take (length rest - 1) (drop 1 rest)))
later b tick low [] t stands h some is = absurd (omega arith)
later b tick low (u ∷ turns) t stands h some is =
    let same : t ≡ u = is in
    let number : t.turn ≡ u.turn = ap (λ (x : TraceTurn). x.turn) same in
    let next : run_until t.turn (take (length (u ∷ turns) - 1) turns) ≡ run_until u.turn turns = ap (λ (n : ℕ). run_until n (take (length (u ∷ turns) - 1) turns)) number ∙ ap (run_until u.turn) (rest_all 1 (u ∷ turns)) in
    let up = rise b.start b.freq u.turn (run_until u.turn turns) b.drift (later_turn u.turn turns h.2) in
    let At : ℕ → Type 0 = λ n. tick ≤ board_tick (clock_of b) n in
    let Tick : ℕ → Type 0 = λ k. k ≤ board_tick (clock_of b) (run_until u.turn turns) in
    subst At (sym next) (subst Tick (sym stands) up)

pub from_start : (b : BoardDef) (turn : ℕ) → b.start ≤ board_tick (clock_of b) turn
unfolding own_tick
from_start b turn = omega arith

rate_most : (drift : ℤ) → drift ≤ℤ pos 200 → rate drift ≤ 1_000_200
rate_most (pos n) h = omega (arith, ints, h)
rate_most (negsuc n) h = omega arith

few_ticks : (start freq turn : ℕ) (drift : ℤ) → start ≤ 2 ^ 40 → freq ≤ 200_000_000 → drift ≤ℤ pos 200 → turn ≤ 1_000_001_001 → own_tick start freq drift turn < tick_limit
unfolding own_tick
few_ticks start freq turn drift s f d t =
    let product : turn * freq * rate drift ≤ 1_000_001_001 * 200_000_000 * 1_000_200 = mul-le-mul (mul-le-mul t f) (rate_most drift d) in
    omega (arith, product)

next_few : (turn low : ℕ) (rest : List TraceTurn) → turn ≤ 1_000_000_000 → AreTurns low rest → run_until turn rest ≤ 1_000_001_001
next_few turn low [] h r = omega arith
next_few turn low (t ∷ turns) h r = omega (arith, r.1)

pub tick_small : (b : BoardDef) (turn low : ℕ) (rest : List TraceTurn) → IsValidBoard b → turn ≤ 1_000_000_000 → AreTurns low rest → board_tick (clock_of b) (run_until turn rest) < tick_limit
tick_small b turn low rest v h r = few_ticks b.start b.freq (run_until turn rest) b.drift v.start v.freq.high v.drift_high (next_few turn low rest h r)
