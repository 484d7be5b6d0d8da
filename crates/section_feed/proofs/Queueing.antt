-- Moves that wait for the steppers, one more behind the others.
use Rattle.std.proofs.Common.{◌≡◌, ℕ, ◌+◌, List, [], ◌∷◌, ◌++◌, refl, ap, sym, ◌∙◌, append_assoc}
use Rattle.std.proofs.lemmas.List.{append-nil}
use Rattle.plan_types.specs.declared.plan.Move.{Move}
use Rattle.plan_types.specs.Sections.{TimedPart, duration, timed}
use Rattle.section_stream.specs.declared.moves.MoveStream.{MoveStream}
use Rattle.section_stream.specs.declared.ready.Ready.{Ready}
use Rattle.section_stream.specs.Moving.{IsMovesOf, time_of}
use Rattle.section_feed.specs.Queues.{AreQueued, waiting_end, waiting_parts}

waiting-append : (t : ℕ) (rs : List Ready) (r : Ready) → waiting_parts t (rs ++ r ∷ []) ≡ waiting_parts t rs ++ timed r.one 0 (waiting_end t rs) r.parts
waiting-append t [] r = append-nil (timed r.one 0 t r.parts)
waiting-append t (x ∷ rs) r = ap (λ ps. timed x.one 0 t x.parts ++ ps) (waiting-append (t + duration x.parts) rs r) ∙ sym (append_assoc (timed x.one 0 t x.parts) (waiting_parts (t + duration x.parts) rs) (timed r.one 0 (waiting_end (t + duration x.parts) rs) r.parts))

end-append : (t : ℕ) (rs : List Ready) (r : Ready) → waiting_end t (rs ++ r ∷ []) ≡ waiting_end t rs + duration r.parts
end-append t [] r = refl
end-append t (x ∷ rs) r = end-append (t + duration x.parts) rs r

pub queued-more : (old new : MoveStream) (drawn : ℕ) (ready ready' : List Ready) (r : Ready) (scv : ℕ) (all : List Move) (parts : List TimedPart) → ready' ≡ ready ++ r ∷ [] → time_of new ≡ time_of old + duration r.parts
    → ((made : List TimedPart) → IsMovesOf old scv all made → IsMovesOf new scv all (made ++ timed r.one 0 (time_of old) r.parts)) → AreQueued old drawn ready scv all parts → AreQueued new drawn ready' scv all parts
queued-more old new drawn ready ready' r scv all parts is time more q =
    let next = timed r.one 0 (time_of old) r.parts in
    let one : next ≡ timed r.one 0 (waiting_end drawn ready) r.parts = ap (λ t. timed r.one 0 t r.parts) q.ends in
    rw is (record {
      made = q.made ++ next;
      moves_are = more q.made q.moves_are;
      split = ap (λ ms. ms ++ next) q.split ∙ append_assoc parts (waiting_parts drawn ready) next ∙ ap (λ ps. parts ++ ps) (ap (λ ps. waiting_parts drawn ready ++ ps) one ∙ sym (waiting-append drawn ready r));
      ends = time ∙ ap (λ t. t + duration r.parts) q.ends ∙ sym (end-append drawn ready r);
    })

pub queued-same : (old new : MoveStream) (drawn : ℕ) (ready : List Ready) (scv : ℕ) (all : List Move) (parts : List TimedPart) → time_of new ≡ time_of old
    → ((made : List TimedPart) → IsMovesOf old scv all made → IsMovesOf new scv all made) → AreQueued old drawn ready scv all parts → AreQueued new drawn ready scv all parts
queued-same old new drawn ready scv all parts time same q = record { made = q.made; moves_are = same q.made q.moves_are; split = q.split; ends = time ∙ q.ends }
