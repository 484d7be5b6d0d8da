-- What an answer makes of an asking, and what a state does.
use Rattle.std.proofs.Common.{◌≡◌, ℕ, ◌⊎◌, inl, inr, Bool, true, false, cond, List, [], ◌∷◌, length, Option, Some, None, refl, sym, subst}
use Rattle.std.specs.Prelude.{◌==◌, nat_lt, ◌+◌, ◌%◌, ◌^◌, nat_le}
use Rattle.msg_code.specs.declared.cmd.Cmd.{Cmd}
use Rattle.msg_code.specs.declared.cmd.Cmd.TheVariants as cmd
use Rattle.msg_code.specs.declared.talk.News.{News}
use Rattle.msg_code.specs.declared.talk.State.{State}
use Rattle.board_asking.specs.declared.asking.Asking.{Asking}
use Rattle.board_asking.specs.declared.asking.Stage.{Stage}
use Rattle.board_asking.specs.declared.asking.Stage.TheVariants.{Identify, Uptime, Configure, Config, Connected}
use Rattle.board_asking.specs.Asking.{more, were_put, was_put, is_in_time, hears_first, listens, answered, or_asking, is_connected, after_piece, after_clock, after_drift, sample_of, settled, tells_clock}
use Rattle.board_asking.specs.Laws.{SaysConfigured, WasConfigured}
use Rattle.plan_types.proofs.Facts.{no_both}

-- none of two stages is connected, whichever it is
two : (b : Bool) (x y : Stage) → is_connected x ≡ false → is_connected y ≡ false → is_connected (cond b x y) ≡ false
two true x y h i = h
two false x y h i = i

-- an answer gives nothing, or an asking of which nothing is out; that is connected only where this holds
abbrev Gives : Option Asking → Type 0 → Type 0
Gives o P = (o ≡ None) ⊎ ((b : Asking) × (o ≡ Some b) × (b.since ≡ None) × (is_connected b.stage ≡ true → P))

if-gives : (c : Bool) (x : Asking) (P : Type 0) → x.since ≡ None → (c ≡ true → is_connected x.stage ≡ true → P) → Gives (cond c (Some x) None) P
if-gives true x P s f = inr (x, refl, s, f refl)
if-gives false x P s f = inl refl

told : (turn : ℕ) (a : Asking) (stage : Stage) (number : ℕ) (answer : Cmd) → Gives (answered turn a stage number answer) ((is_connected stage ≡ true) ⊎ SaysConfigured answer)
told turn a (Identify offset) number (cmd.IdentifyResponse x0 x1) = if-gives (offset == x0) (after_piece a offset (length x1.items)) _ refl (λ e h. absurd (no_both _ h (two (nat_lt (length x1.items) 40) Uptime (Identify ((offset + 40) % 2 ^ 32)) refl refl)))
told turn a (Identify offset) number (cmd.Identify x0 x1) = inl refl
told turn a (Identify offset) number (cmd.AllocateOids x0) = inl refl
told turn a (Identify offset) number cmd.GetConfig = inl refl
told turn a (Identify offset) number (cmd.FinalizeConfig x0) = inl refl
told turn a (Identify offset) number cmd.GetUptime = inl refl
told turn a (Identify offset) number cmd.EmergencyStop = inl refl
told turn a (Identify offset) number (cmd.ConfigStepper x0 x1 x2 x3 x4) = inl refl
told turn a (Identify offset) number (cmd.QueueStep x0 x1 x2 x3) = inl refl
told turn a (Identify offset) number (cmd.SetNextStepDir x0 x1) = inl refl
told turn a (Identify offset) number (cmd.ResetStepClock x0 x1) = inl refl
told turn a (Identify offset) number (cmd.ConfigTrsync x0) = inl refl
told turn a (Identify offset) number (cmd.TrsyncStart x0 x1 x2 x3) = inl refl
told turn a (Identify offset) number (cmd.TrsyncSetTimeout x0 x1) = inl refl
told turn a (Identify offset) number (cmd.TrsyncTrigger x0 x1) = inl refl
told turn a (Identify offset) number (cmd.StepperStopOnTrigger x0 x1) = inl refl
told turn a (Identify offset) number (cmd.ConfigEndstop x0 x1 x2) = inl refl
told turn a (Identify offset) number (cmd.EndstopHome x0 x1 x2 x3 x4 x5 x6 x7) = inl refl
told turn a (Identify offset) number (cmd.Config x0 x1 x2 x3) = inl refl
told turn a (Identify offset) number (cmd.Uptime x0 x1) = inl refl
told turn a (Identify offset) number (cmd.TrsyncState x0 x1 x2 x3) = inl refl
told turn a (Identify offset) number (cmd.Shutdown x0 x1) = inl refl
told turn a (Identify offset) number (cmd.IsShutdown x0) = inl refl
told turn a Uptime number (cmd.IdentifyResponse x0 x1) = inl refl
told turn a Uptime number (cmd.Identify x0 x1) = inl refl
told turn a Uptime number (cmd.AllocateOids x0) = inl refl
told turn a Uptime number cmd.GetConfig = inl refl
told turn a Uptime number (cmd.FinalizeConfig x0) = inl refl
told turn a Uptime number cmd.GetUptime = inl refl
told turn a Uptime number cmd.EmergencyStop = inl refl
told turn a Uptime number (cmd.ConfigStepper x0 x1 x2 x3 x4) = inl refl
told turn a Uptime number (cmd.QueueStep x0 x1 x2 x3) = inl refl
told turn a Uptime number (cmd.SetNextStepDir x0 x1) = inl refl
told turn a Uptime number (cmd.ResetStepClock x0 x1) = inl refl
told turn a Uptime number (cmd.ConfigTrsync x0) = inl refl
told turn a Uptime number (cmd.TrsyncStart x0 x1 x2 x3) = inl refl
told turn a Uptime number (cmd.TrsyncSetTimeout x0 x1) = inl refl
told turn a Uptime number (cmd.TrsyncTrigger x0 x1) = inl refl
told turn a Uptime number (cmd.StepperStopOnTrigger x0 x1) = inl refl
told turn a Uptime number (cmd.ConfigEndstop x0 x1 x2) = inl refl
told turn a Uptime number (cmd.EndstopHome x0 x1 x2 x3 x4 x5 x6 x7) = inl refl
told turn a Uptime number (cmd.Config x0 x1 x2 x3) = inl refl
told turn a Uptime number (cmd.Uptime x0 x1) = if-gives (tells_clock a number) (after_clock a (sample_of a turn x0 x1)) _ refl (λ e h. absurd (no_both _ h (two (nat_le 8 (more a.samples)) (Configure 0) Uptime refl refl)))
told turn a Uptime number (cmd.TrsyncState x0 x1 x2 x3) = inl refl
told turn a Uptime number (cmd.Shutdown x0 x1) = inl refl
told turn a Uptime number (cmd.IsShutdown x0) = inl refl
told turn a (Configure n) number (cmd.IdentifyResponse x0 x1) = inl refl
told turn a (Configure n) number (cmd.Identify x0 x1) = inl refl
told turn a (Configure n) number (cmd.AllocateOids x0) = inl refl
told turn a (Configure n) number cmd.GetConfig = inl refl
told turn a (Configure n) number (cmd.FinalizeConfig x0) = inl refl
told turn a (Configure n) number cmd.GetUptime = inl refl
told turn a (Configure n) number cmd.EmergencyStop = inl refl
told turn a (Configure n) number (cmd.ConfigStepper x0 x1 x2 x3 x4) = inl refl
told turn a (Configure n) number (cmd.QueueStep x0 x1 x2 x3) = inl refl
told turn a (Configure n) number (cmd.SetNextStepDir x0 x1) = inl refl
told turn a (Configure n) number (cmd.ResetStepClock x0 x1) = inl refl
told turn a (Configure n) number (cmd.ConfigTrsync x0) = inl refl
told turn a (Configure n) number (cmd.TrsyncStart x0 x1 x2 x3) = inl refl
told turn a (Configure n) number (cmd.TrsyncSetTimeout x0 x1) = inl refl
told turn a (Configure n) number (cmd.TrsyncTrigger x0 x1) = inl refl
told turn a (Configure n) number (cmd.StepperStopOnTrigger x0 x1) = inl refl
told turn a (Configure n) number (cmd.ConfigEndstop x0 x1 x2) = inl refl
told turn a (Configure n) number (cmd.EndstopHome x0 x1 x2 x3 x4 x5 x6 x7) = inl refl
told turn a (Configure n) number (cmd.Config x0 x1 x2 x3) = inl refl
told turn a (Configure n) number (cmd.Uptime x0 x1) = inl refl
told turn a (Configure n) number (cmd.TrsyncState x0 x1 x2 x3) = inl refl
told turn a (Configure n) number (cmd.Shutdown x0 x1) = inl refl
told turn a (Configure n) number (cmd.IsShutdown x0) = inl refl
told turn a Config number (cmd.IdentifyResponse x0 x1) = inl refl
told turn a Config number (cmd.Identify x0 x1) = inl refl
told turn a Config number (cmd.AllocateOids x0) = inl refl
told turn a Config number cmd.GetConfig = inl refl
told turn a Config number (cmd.FinalizeConfig x0) = inl refl
told turn a Config number cmd.GetUptime = inl refl
told turn a Config number cmd.EmergencyStop = inl refl
told turn a Config number (cmd.ConfigStepper x0 x1 x2 x3 x4) = inl refl
told turn a Config number (cmd.QueueStep x0 x1 x2 x3) = inl refl
told turn a Config number (cmd.SetNextStepDir x0 x1) = inl refl
told turn a Config number (cmd.ResetStepClock x0 x1) = inl refl
told turn a Config number (cmd.ConfigTrsync x0) = inl refl
told turn a Config number (cmd.TrsyncStart x0 x1 x2 x3) = inl refl
told turn a Config number (cmd.TrsyncSetTimeout x0 x1) = inl refl
told turn a Config number (cmd.TrsyncTrigger x0 x1) = inl refl
told turn a Config number (cmd.StepperStopOnTrigger x0 x1) = inl refl
told turn a Config number (cmd.ConfigEndstop x0 x1 x2) = inl refl
told turn a Config number (cmd.EndstopHome x0 x1 x2 x3 x4 x5 x6 x7) = inl refl
told turn a Config number (cmd.Config x0 x1 x2 x3) = if-gives (x0 == 1) (settled a Connected) _ refl (λ e h. inr e)
told turn a Config number (cmd.Uptime x0 x1) = inl refl
told turn a Config number (cmd.TrsyncState x0 x1 x2 x3) = inl refl
told turn a Config number (cmd.Shutdown x0 x1) = inl refl
told turn a Config number (cmd.IsShutdown x0) = inl refl
told turn a Connected number (cmd.IdentifyResponse x0 x1) = inl refl
told turn a Connected number (cmd.Identify x0 x1) = inl refl
told turn a Connected number (cmd.AllocateOids x0) = inl refl
told turn a Connected number cmd.GetConfig = inl refl
told turn a Connected number (cmd.FinalizeConfig x0) = inl refl
told turn a Connected number cmd.GetUptime = inl refl
told turn a Connected number cmd.EmergencyStop = inl refl
told turn a Connected number (cmd.ConfigStepper x0 x1 x2 x3 x4) = inl refl
told turn a Connected number (cmd.QueueStep x0 x1 x2 x3) = inl refl
told turn a Connected number (cmd.SetNextStepDir x0 x1) = inl refl
told turn a Connected number (cmd.ResetStepClock x0 x1) = inl refl
told turn a Connected number (cmd.ConfigTrsync x0) = inl refl
told turn a Connected number (cmd.TrsyncStart x0 x1 x2 x3) = inl refl
told turn a Connected number (cmd.TrsyncSetTimeout x0 x1) = inl refl
told turn a Connected number (cmd.TrsyncTrigger x0 x1) = inl refl
told turn a Connected number (cmd.StepperStopOnTrigger x0 x1) = inl refl
told turn a Connected number (cmd.ConfigEndstop x0 x1 x2) = inl refl
told turn a Connected number (cmd.EndstopHome x0 x1 x2 x3 x4 x5 x6 x7) = inl refl
told turn a Connected number (cmd.Config x0 x1 x2 x3) = inl refl
told turn a Connected number (cmd.Uptime x0 x1) = if-gives (tells_clock a number) (after_drift a (sample_of a turn x0 x1)) _ refl (λ e h. inl refl)
told turn a Connected number (cmd.TrsyncState x0 x1 x2 x3) = inl refl
told turn a Connected number (cmd.Shutdown x0 x1) = inl refl
told turn a Connected number (cmd.IsShutdown x0) = inl refl

widened : (n : News) (news : List News) (A : Type 0) → A ⊎ WasConfigured news → A ⊎ WasConfigured (n ∷ news)
widened n news A (inl a) = inl a
widened n news A (inr w) = inr (inr w)

first : (n : News) (news : List News) (A : Type 0) → A ⊎ SaysConfigured n.answer → A ⊎ WasConfigured (n ∷ news)
first n news A (inl a) = inl a
first n news A (inr w) = inr (inl w)

-- news change nothing of an asking, or nothing is out behind them, and it is connected where it was or where they say so
abbrev Settles : Asking → Asking → List News → Type 0
Settles b a news = (b ≡ a) ⊎ ((b.since ≡ None) × (is_connected b.stage ≡ true → (is_connected a.stage ≡ true) ⊎ WasConfigured news))

later : (n : News) (news : List News) (b a : Asking) → Settles b a news → Settles b a (n ∷ news)
later n news b a (inl e) = inl e
later n news b a (inr (s, f)) = inr (s, λ h. widened n news (is_connected a.stage ≡ true) (f h))

heard : (turn : ℕ) (news : List News) (a : Asking) → Settles (hears_first turn news a) a news
heard turn [] a = inl refl
heard turn (n ∷ news) a = elim (told turn a a.stage n.number n.answer) [
  | inl none ↦ subst (λ (o : Option Asking). Settles (or_asking o (hears_first turn news a)) a (n ∷ news)) (sym none) (later n news (hears_first turn news a) a (heard turn news a))
  | inr (b, is, s, f) ↦ subst (λ (o : Option Asking). Settles (or_asking o (hears_first turn news a)) a (n ∷ news)) (sym is) (inr (s, λ h. first n news (is_connected a.stage ≡ true) (f h)))
]

-- what of an asking stays where no answer comes
pub record Stays (b a : Asking) : Type 0 where
  pub stage : b.stage ≡ a.stage
  pub since : b.since ≡ a.since
  pub missed : b.missed ≡ a.missed
  pub first : b.first ≡ a.first

stays : (a : Asking) → Stays a a
stays a = record { stage = refl; since = refl; missed = refl; first = refl }

put-stays : (turn : ℕ) (ns : List ℕ) (a : Asking) → Stays (were_put turn ns a) a
put-stays turn [] a = stays a
put-stays turn (n ∷ ns) a = let p = put-stays turn ns (was_put turn a n) in record { stage = p.stage; since = p.since; missed = p.missed; first = p.first }

abbrev pub Listens : Asking → Asking → State → Type 0
Listens b a s = Stays b a ⊎ ((b.since ≡ None) × (is_connected b.stage ≡ true → (is_connected a.stage ≡ true) ⊎ WasConfigured s.news))

as-before : (s : State) (b w a : Asking) → Stays w a → Settles b w s.news → Listens b a s
as-before s b w a p (inl e) = inl (subst (λ (x : Asking). Stays x a) (sym e) p)
as-before s b w a p (inr (n, f)) = inr (n, λ h. subst (λ (g : Stage). (is_connected g ≡ true) ⊎ WasConfigured s.news) p.stage (f h))

either-listens : (c : Bool) (s : State) (b w a : Asking) → Stays w a → Settles b w s.news → Listens (cond c b w) a s
either-listens true s b w a p h = as-before s b w a p h
either-listens false s b w a p h = inl p

pub listened : (a : Asking) (s : State) → Listens (listens a s) a s
listened a s =
    let w = were_put s.turn s.asked a in
    either-listens (is_in_time s.turn w.since) s (hears_first s.turn s.news w) w a (put-stays s.turn s.asked a) (heard s.turn s.news w)

still : (b a : Asking) (s : State) → Listens b a s → is_connected b.stage ≡ true → (is_connected a.stage ≡ true) ⊎ WasConfigured s.news
still b a s (inl p) h = inl (subst (λ (g : Stage). is_connected g ≡ true) p.stage h)
still b a s (inr (n, f)) h = f h

pub configured : (a : Asking) (s : State) → is_connected (listens a s).stage ≡ true → (is_connected a.stage ≡ true) ⊎ WasConfigured s.news
configured a s h = still (listens a s) a s (listened a s) h
