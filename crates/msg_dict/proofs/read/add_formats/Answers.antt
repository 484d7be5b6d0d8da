use Rattle.std.proofs.Common.{◌≡◌, List, ◌∷◌, [], ◌++◌, Option, ap, sym, ◌∙◌, string_bytes}
use Rattle.serde_json.specs.View.{view, members_view}
use Rattle.msg_dict.specs.Dictionary.{Named}
use Rattle.msg_dict.specs.Kept.{format_of}
use Rattle.msg_dict.specs.Reading.{formats_of, with_format, id_of}
use Rattle.msg_dict.proofs.ReadSteps.{prefixed, prefixed_more, added}
use Rattle.msg_dict.proofs.read.add_formats.Goals as goal
use Rattle.std.proofs.Common.{ℕ, Some, map}

pub loop-name-preserved : goal.loop-name-preserved
loop-name-preserved c =
    let seen = c.loop-name.invariant.0 in
    let name = string_bytes c.in-Some.name.now in
    let id = c.in-Some-id_of.id in
    let e : Named = record { name = string_bytes c.in-Some.name.now; number = c.in-Some-id_of.id } in
    let left = c.next.new.self in
    let text : c.in_ok-text.text.items ≡ string_bytes c.in-Some.name.now = c.in_ok-text.ensures.items ∙ c.as_bytes.ensures.value in
    let same : format_of c.new-format.result ≡ record { name = string_bytes c.in-Some.name.now; number = c.in-Some-id_of.id } =
    ap (λ (t : List ℕ). record { name = t; number = c.new-format.result.id }) (c.new-format.ensures.text ∙ text) ∙ ap (λ (n : ℕ). record { name = string_bytes c.in-Some.name.now; number = n }) c.new-format.ensures.id in
    let known : id_of (view c.in-Some.value.now) ≡ Some c.in-Some-id_of.id = sym c.in-Some-id_of.ensures in
    let step = ap (λ es. prefixed c.loop-name.invariant.0 (formats_of (members_view es))) c.in-Some.ensures.steps in
    let read = ap (λ (o : Option ℕ). prefixed c.loop-name.invariant.0 (with_format (string_bytes c.in-Some.name.now) o (formats_of (members_view c.next.new.self)))) known in (
      seen ++ e ∷ [],
      added c.loop-name.out.items c.push.new.self.items c.new-format.result e (map format_of c.args.out.now.items) seen
          c.in_ok-push.ensures.items same c.loop-name.invariant.1,
      c.loop-name.invariant.2 ∙ step ∙ read ∙ prefixed_more seen name id (formats_of (members_view left)),
    )
