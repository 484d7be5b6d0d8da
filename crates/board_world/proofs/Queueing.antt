-- Lemmas on the commands that are queued.
use Rattle.std.proofs.Common.{◌≡◌, ℕ, Bool, ◌+◌, ◌<◌, List, [], ◌∷◌, ◌++◌, length, take, map, get_or, Some, None, ap, sym, subst, ◌∙◌, append_assoc, append-nil}
use Rattle.std.proofs.lemmas.List.{take_more, map-append}
use Rattle.std.proofs.lemmas.Grind.{flat_map-append}
use Rattle.link_core.specs.Host.{Host, with_queued}
use Rattle.msg_dict.specs.declared.row.Row.{Row}
use Rattle.msg_dict.specs.Dictionary.{Named, number_named}
use Rattle.msg_dict.specs.Own.{own_formats}
use Rattle.msg_dict.specs.Table.{format_text, own_id}
use Rattle.msg_dict.proofs.Rows.{own_number}
use Rattle.msg_code.specs.declared.cmd.Cmd.{Cmd}
use Rattle.msg_code.specs.declared.unit.Unit.{Unit as StepUnit}
use Rattle.msg_code.specs.Text.{IsText, Writes}
use Rattle.msg_code.proofs.Written.{text_is}
use Rattle.board_sim.specs.Fair.{Meant}
use Rattle.msg_code.specs.Units.{reset_commands, dir_commands, step_command}
use Rattle.board_world.specs.Orders.{plain, unit_ticks, unit_orders, units_orders}
use Rattle.board_world.specs.World.{closes, wire_text, on_wire}
use Rattle.board_world.specs.Stands.{with_waiting, AreRead}

some_none : (n : ℕ) → Some n ≡ None → ⊥
some_none n e = cc

pub known : (fs : List Named) (r : Row) → fs ≡ own_formats → number_named (format_text r) fs ≡ None → ⊥
known fs r e none = some_none (own_id r) (sym (own_number r) ∙ ap (λ x. number_named (format_text r) x) (sym e) ∙ none)

pub written_is : (fs : List Named) (c : Cmd) (text : List ℕ) → fs ≡ own_formats → Writes fs c text → text ≡ wire_text c
written_is fs c text e w = let At : List Named → Type 0 = λ x. Writes x c text in text_is own_formats c text (subst At e w)

pub is_read : (fs : List Named) (c : Cmd) (text : List ℕ) → fs ≡ own_formats → Writes fs c text → IsText fs c text → IsText own_formats c (wire_text c)
is_read fs c text e w s =
    let At : List Named → Type 0 = λ x. IsText x c text in
    let Of : List ℕ → Type 0 = λ t. IsText own_formats c t in
    subst Of (written_is fs c text e w) (subst At e s)

pub one_queued : (host : Host) (c : Cmd) (closing : Bool) → closing ≡ closes c → with_queued host (wire_text c) closing ≡ with_waiting host (plain c ∷ [])
one_queued host c closing e = ap (λ b. with_queued host (wire_text c) b) e

-- first these, then those
pub more_waiting : (a b c : Host) (ms ns : List Meant) → b ≡ with_waiting a ms → c ≡ with_waiting b ns → c ≡ with_waiting a (ms ++ ns)
more_waiting a b c ms ns e f =
    f ∙ ap (λ x. with_waiting x ns) e ∙ ap (λ x. record a { waiting = x }) (append_assoc a.waiting (map on_wire ms) (map on_wire ns) ∙ ap (λ x. a.waiting ++ x) (sym (map-append on_wire ms ns)))

pub none_waiting : (a : Host) → a ≡ with_waiting a []
none_waiting a = ap (λ x. record a { waiting = x }) (sym (append-nil a.waiting))

pub read_both : (ms ns : List Meant) → AreRead ms → AreRead ns → AreRead (ms ++ ns)
read_both [] ns p q = q
read_both (m ∷ ms) ns p q = (p.0, read_both ms ns p.1 q)

pub record Queued (old new : Host) (ms : List Meant) : Type 0 where
  pub host : new ≡ with_waiting old ms
  pub read : AreRead ms

pub queued_none : (a : Host) → Queued a a []
queued_none a = record { host = none_waiting a; read = tt }

pub queued_both : (a b c : Host) (ms ns : List Meant) → Queued a b ms → Queued b c ns → Queued a c (ms ++ ns)
queued_both a b c ms ns p q = record { host = more_waiting a b c ms ns p.host q.host; read = read_both ms ns p.read q.read }

-- one command more
pub command_more : (cs : List Cmd) (i : ℕ) (c : Cmd) (a old new : Host) → i < length cs → c ≡ get_or cs i c → Queued a old (map plain (take i cs))
    → new ≡ with_waiting old (plain c ∷ []) → IsText own_formats c (wire_text c) → Queued a new (map plain (take (i + 1) cs))
command_more cs i c a old new h at before e read =
    let more : map plain (take (i + 1) cs) ≡ map plain (take i cs) ++ plain c ∷ [] =
    ap (map plain) (take_more cs i c h ∙ ap (λ x. take i cs ++ x ∷ []) (sym at)) ∙ map-append plain (take i cs) (c ∷ []) in
    rw more (queued_both a old new (map plain (take i cs)) (plain c ∷ []) before (record { host = e; read = (read, tt) }))

-- one unit more
pub unit_more : (us : List StepUnit) (i : ℕ) (d : StepUnit) (a old new : Host) → i < length us → Queued a old (units_orders (take i us))
    → new ≡ with_waiting old (unit_orders (get_or us i d)) → AreRead (unit_orders (get_or us i d)) → Queued a new (units_orders (take (i + 1) us))
unit_more us i d a old new h before e read =
    let u : StepUnit = get_or us i d in
    let more : units_orders (take (i + 1) us) ≡ units_orders (take i us) ++ unit_orders u =
    ap units_orders (take_more us i d h) ∙ flat_map-append unit_orders (take i us) (u ∷ []) ∙ ap (λ x. units_orders (take i us) ++ x) (append-nil (unit_orders u)) in
    rw more (queued_both a old new (units_orders (take i us)) (unit_orders u) before (record { host = e; read = read }))

-- the commands of a unit
pub unit_queued : (u : StepUnit) (a b c d : Host) → b ≡ with_waiting a (map plain (reset_commands u.stepper u.reset)) → c ≡ with_waiting b (map plain (dir_commands u.stepper u.up))
    → d ≡ with_waiting c (plain (step_command u) ∷ []) → d ≡ with_waiting a (unit_orders u)
unit_queued u a b c d e f g =
    let last : List Meant = record { command = step_command u; ticks = unit_ticks u } ∷ [] in
    let h : d ≡ with_waiting c last = g in
    more_waiting a b d (map plain (reset_commands u.stepper u.reset)) (map plain (dir_commands u.stepper u.up) ++ last) e
    (more_waiting b c d (map plain (dir_commands u.stepper u.up)) last f h)
