-- The configuration of a board, over the turns of a run.
use Rattle.std.proofs.Common.{◌≡◌, ℕ, ◌+◌, ◌-◌, ◌^◌, ◌<◌, ◌≤◌, Bool, true, false, cond, List, [], ◌∷◌, ◌++◌, map, take, drop, length, min, Option, Some, None, refl, ap, sym, ◌∙◌, subst, arith, append-nil, rules}
use Rattle.std.specs.Prelude.{◌==◌, ◌%◌, nat_le, nat_lt}
use Rattle.std.specs.List.{filter}
use Rattle.std.proofs.Math.Seq.{take-add}
use Rattle.laws_board.proofs.Names.{map-append, take-append-drop, Cmd, News, State, Asking, Stage, Identify, Uptime, Configure, Config, Connected, Setup, is_question_due}
use Rattle.std.proofs.lemmas.List.{length-drop}
use Rattle.msg_code.specs.Bytes.{command_bytes}
use Rattle.msg_code.specs.declared.cmd.Cmd.TheVariants as cmd
use Rattle.board_asking.specs.declared.setup.Setup.TheVariants.{Oids, Stepper, Trsync, Endstop, Finish}
use Rattle.board_asking.specs.Asking.{after_asks, after_clock, after_drift, after_piece, answered, asked, asks, hears_first, is_in_time, is_over, more, or_asking, question, ready_stage, sample_of, settled, tells_clock, were_put}
use Rattle.board_asking.specs.Machine.{control_bytes, fitting, setup_command}
use Rattle.laws_board.specs.clocks.Ordered.{configures}
use Rattle.laws_board.proofs.clocks.Lines.{were_stage}
use Rattle.laws_board.proofs.clocks.Turning.{heard_now}

-- how far a board's configuration has come, by what was ordered of it
abbrev pub Conf : List Setup → Stage → List Cmd → Type 0
Conf setups (Configure n) done = (n ≤ length setups) × (done ≡ map setup_command (take n setups))
Conf setups Config done = done ≡ map setup_command setups
Conf setups Connected done = done ≡ map setup_command setups
Conf setups c done = done ≡ []

abbrev MayConf : List Setup → List Cmd → Option Asking → Type 0
MayConf setups done None = Unit {0}
MayConf setups done (Some a) = Conf setups a.stage done

conf_if : (setups : List Setup) (done : List Cmd) (b : Bool) (a : Asking) → Conf setups a.stage done → MayConf setups done (cond b (Some a) None)
conf_if setups done true a k = k
conf_if setups done false a k = tt

conf_piece : (setups : List Setup) (done : List Cmd) (b : Bool) (offset : ℕ) → done ≡ [] → Conf setups (cond b Uptime (Identify offset)) done
conf_piece setups done true offset e = e
conf_piece setups done false offset e = e

conf_clock : (setups : List Setup) (done : List Cmd) (b : Bool) → done ≡ [] → Conf setups (cond b (Configure 0) Uptime) done
conf_clock setups done true e = (omega arith, e)
conf_clock setups done false e = e

conf_answer : (setups : List Setup) (done : List Cmd) (turn : ℕ) (a : Asking) (stage : Stage) (number : ℕ) (c : Cmd) → Conf setups stage done → MayConf setups done (answered turn a stage number c)
conf_answer setups done turn a stage number c p7 = search (rules, conf_if, conf_piece, nat_lt, conf_clock, nat_le)

conf_or : (setups : List Setup) (done : List Cmd) (o : Option Asking) (b : Asking) → MayConf setups done o → Conf setups b.stage done → Conf setups (or_asking o b).stage done
conf_or setups done None b m k = k
conf_or setups done (Some a) b m k = m

conf_hears : (setups : List Setup) (done : List Cmd) (turn : ℕ) (ns : List News) (a : Asking) → Conf setups a.stage done → Conf setups (hears_first turn ns a).stage done
conf_hears setups done turn [] a k = k
conf_hears setups done turn (n ∷ ns) a k =
    conf_or setups done (answered turn a a.stage n.number n.answer) (hears_first turn ns a) (conf_answer setups done turn a a.stage n.number n.answer k) (conf_hears setups done turn ns a k)

conf_either : (setups : List Setup) (done : List Cmd) (b : Bool) (x y : Asking) → Conf setups x.stage done → Conf setups y.stage done → Conf setups (cond b x y).stage done
conf_either setups done true x y k l = k
conf_either setups done false x y k l = l

pub conf_heard : (setups : List Setup) (done : List Cmd) (a : Asking) (states : List State) → Conf setups a.stage done → Conf setups (heard_now a states).stage done
conf_heard setups done a states p4 = search (rules, were_stage, conf_either, conf_hears)

-- all was ordered
over_none : (ss : List Setup) → is_over ss ≡ true → ss ≡ []
over_none [] e = refl
over_none (s ∷ ss) e = cc

conf_over : (setups : List Setup) (n : ℕ) (done : List Cmd) (b : Bool) → is_over (drop n setups) ≡ b → Conf setups (Configure n) done → Conf setups (cond b Config (Configure n)) done
conf_over setups n done false e k = k
conf_over setups n done true e k =
    let none : drop n setups ≡ [] = over_none (drop n setups) e in
    let whole : take n setups ≡ setups = sym (append-nil (take n setups)) ∙ ap (λ (x : List Setup). take n setups ++ x) (sym none) ∙ take-append-drop n setups in
    k.1 ∙ ap (λ (x : List Setup). map setup_command x) whole

pub conf_ready : (setups : List Setup) (stage : Stage) (done : List Cmd) → Conf setups stage done → Conf setups (ready_stage setups stage) done
conf_ready setups (Configure n) done k = conf_over setups n done (is_over (drop n setups)) refl k
conf_ready setups c done k = k

-- what is ordered in a turn
pub filter_both : (xs ys : List Cmd) → filter configures (xs ++ ys) ≡ filter configures xs ++ filter configures ys
filter_both [] ys = refl
filter_both (x ∷ xs) ys = one (configures x) (filter_both xs ys)
  where
    one : (b : Bool) → filter configures (xs ++ ys) ≡ filter configures xs ++ filter configures ys
        → cond b (x ∷ filter configures (xs ++ ys)) (filter configures (xs ++ ys)) ≡ cond b (x ∷ filter configures xs) (filter configures xs) ++ filter configures ys
    one true e = ap (λ (l : List Cmd). x ∷ l) e
    one false e = e

filter_setups : (ss : List Setup) → filter configures (map setup_command ss) ≡ map setup_command ss
filter_setups [] = refl
filter_setups (Oids count ∷ ss) = ap (λ (l : List Cmd). cmd.AllocateOids count ∷ l) (filter_setups ss)
filter_setups (Stepper oid step dir ∷ ss) = ap (λ (l : List Cmd). cmd.ConfigStepper oid step dir 0 0 ∷ l) (filter_setups ss)
filter_setups (Trsync oid ∷ ss) = ap (λ (l : List Cmd). cmd.ConfigTrsync oid ∷ l) (filter_setups ss)
filter_setups (Endstop oid pin ∷ ss) = ap (λ (l : List Cmd). cmd.ConfigEndstop oid pin 0 ∷ l) (filter_setups ss)
filter_setups (Finish ∷ ss) = ap (λ (l : List Cmd). cmd.FinalizeConfig 0 ∷ l) (filter_setups ss)

fitting_first : (room : ℕ) (ss : List Setup) → (fitting room ss ≡ take (length (fitting room ss)) ss) × (length (fitting room ss) ≤ length ss)
fitting_first room [] = (refl, omega arith)
fitting_first room (s ∷ ss) =
    let size = command_bytes (setup_command s) in
    one (nat_le size room) (fitting (room - size) ss) (fitting_first (room - size) ss)
  where
    one : (b : Bool) (f : List Setup) → (f ≡ take (length f) ss) × (length f ≤ length ss) → (cond b (s ∷ f) [] ≡ take (length (cond b (s ∷ f) [])) (s ∷ ss)) × (length (cond b (s ∷ f) []) ≤ length (s ∷ ss))
    one true f k = let l = k.1 in (ap (λ (x : List Setup). s ∷ x) k.0, omega arith)
    one false f k = (refl, omega arith)

none_more : (done : List Cmd) (setups : List Setup) (stage : Stage) (b : Bool) (cs : List Cmd) → filter configures cs ≡ [] → Conf setups stage done → Conf setups stage (done ++ filter configures (cond b cs []))
none_more done setups stage true cs e k = subst (λ (l : List Cmd). Conf setups stage l) (sym (ap (λ (l : List Cmd). done ++ l) e ∙ append-nil done)) k
none_more done setups stage false cs e k = subst (λ (l : List Cmd). Conf setups stage l) (sym (append-nil done)) k

still_stage : (setups : List Setup) (b : Bool) (k : ℕ) (a : Asking) (stage : Stage) (done : List Cmd) → a.stage ≡ stage → Conf setups stage done → Conf setups (cond b (asked k a) a).stage done
still_stage setups true k a stage done e c = subst (λ (g : Stage). Conf setups g done) (sym e) c
still_stage setups false k a stage done e c = subst (λ (g : Stage). Conf setups g done) (sym e) c

pub conf_asks : (setups : List Setup) (k : ℕ) (a : Asking) (stage : Stage) (done : List Cmd) → length setups < 1_000 → a.stage ≡ stage → Conf setups stage done
    → Conf setups (after_asks setups k a stage).stage (done ++ filter configures (asks setups k a stage))
conf_asks setups k a (Identify offset) done few e c =
    still_stage setups (is_question_due k a.since) k a (Identify offset) _ e (none_more done setups (Identify offset) (is_question_due k a.since) (question (Identify offset)) refl c)
conf_asks setups k a (Configure n) done few e c =
    let f = fitting control_bytes (drop n setups) in
    let q = length f in
    let part = fitting_first control_bytes (drop n setups) in
    let size = length-drop n setups in
    let low = c.0 in
    let short = part.1 in
    let reach : n + q ≤ length setups = omega arith in
    let next : min (n + q) (2 ^ 64 - 1) ≡ n + q = omega arith in
    let front : take n setups ++ f ≡ take (n + q) setups = ap (λ (x : List Setup). take n setups ++ x) part.0 ∙ sym (take-add n q setups) in
    let whole : done ++ filter configures (map setup_command f) ≡ map setup_command (take (n + q) setups) =
    ap (λ (x : List Cmd). x ++ filter configures (map setup_command f)) c.1 ∙ ap (λ (x : List Cmd). map setup_command (take n setups) ++ x) (filter_setups f)
    ∙ sym (map-append setup_command (take n setups) f) ∙ ap (λ (x : List Setup). map setup_command x) front in
    subst (λ (i : ℕ). Conf setups (Configure i) (done ++ filter configures (map setup_command f))) (sym next) (reach, whole)
conf_asks setups k a Connected done few e c =
    let none : filter configures (cond (is_question_due k a.since) [] []) ≡ [] = no_question (is_question_due k a.since) in
    subst (λ (g : Stage). Conf setups g (done ++ filter configures (cond (is_question_due k a.since) [] []))) (sym e)
    (subst (λ (l : List Cmd). Conf setups Connected l) (sym (ap (λ (l : List Cmd). done ++ l) none ∙ append-nil done)) c)
  where
    no_question : (b : Bool) → filter configures (cond b [] []) ≡ []
    no_question true = refl
    no_question false = refl
conf_asks setups k a m done few e c = still_stage setups (is_question_due k a.since) k a m _ e (none_more done setups m (is_question_due k a.since) (question m) refl c)
