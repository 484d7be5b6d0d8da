-- Each event keeps the numbers of a link in step.
use Rattle.std.proofs.Common.{Bool, true, false, ◌≡◌, ℕ, ◌+◌, ◌-◌, ◌<◌, ◌≤◌, List, [], ◌∷◌, ◌++◌, length, take, max, slice_index_or, get_or, suc, append-nil, refl, ap, subst, sym, ◌∙◌, arith, inl, inr, length-append}
use Rattle.std.proofs.lemmas.Bool.Decides.{leb_tells, eqb_tells}
use Rattle.std.proofs.lemmas.List.{take_more, take-append-le}
use Rattle.std.specs.List.{flat_map}
use Rattle.std.proofs.lemmas.Grind.{flat_map-append}
use Rattle.link_core.specs.Core.{Link, Event, Command, Reply, InStep, happens, run, new_link, sent, queue, send, resend, handle, lose, garble, repeat, reply, lose_reply, numbers, numbered, next_block, Rise, AreNear}
use Rattle.link_core.specs.Core.Event.{Put, Control, Send, Resend, Arrive, Repeat, Lose, Garble, Reply_comes, Lose_reply, Pass, Turn}
use Rattle.link_core.proofs.Near.{Rise_lower, Rise-append, Rise_within, Rise_numbered, AreNear-append, AreNear_sent, AreNear_accepted, numbers_near, numbers_reach}

-- the commands of these blocks
abbrev commands : List (List Command) → List Command
commands blocks = flat_map (λ cs. cs) blocks

one_more : (taken : List Command) (blocks : List (List Command)) (n : ℕ) → n < length blocks → taken ≡ commands (take n blocks) → taken ++ slice_index_or blocks n [] ≡ commands (take (n + 1) blocks)
one_more taken blocks n h e =
    rw (take_more blocks n [] h, flat_map-append, append-nil) (ap (λ t. t ++ get_or blocks n []) e)

queue_keeps : (h : Link) (cs : List Command) → InStep h → InStep (queue h cs)
queue_keeps h cs s = record { acked_accepted = s.acked_accepted; accepted_sent = s.accepted_sent; in_window = s.in_window; up = s.up; down = s.down; each_once = s.each_once }

send_keeps : (h : Link) (cs : List Command) → InStep h → InStep (send h cs)
send_keeps h [] s = s
send_keeps h (c ∷ cs) s =
    elim (leb_tells (suc (sent h - h.acked)) 12) [
      | inl p ↦ rw p.0 (record {
        acked_accepted = s.acked_accepted;
        accepted_sent = simp length-append (omega (arith, s.accepted_sent));
        in_window = simp length-append (omega (arith, p.1));
        up = s.up;
        down = simp length-append (AreNear-append (sent h + 1) h.accepted h.down (sent h ∷ [])
            (AreNear_sent (sent h) h.accepted h.down s.down)
            (record { was_sent = omega arith; below = omega (arith, p.1, s.acked_accepted); above = omega (arith, s.accepted_sent) }, tt, tt)
            (omega arith, tt));
        each_once = s.each_once ∙ sym (ap commands (take-append-le h.accepted h.blocks (next_block 59 (c ∷ cs) ∷ []) s.accepted_sent));
      })
      | inr p ↦ rw p.0 s
    ]

resend_keeps : (h : Link) → InStep h → InStep (resend h)
resend_keeps h s = record {
  acked_accepted = s.acked_accepted;
  accepted_sent = s.accepted_sent;
  in_window = s.in_window;
  up = s.up;
  down = AreNear-append (sent h) h.accepted h.down (numbers h.acked (sent h - h.acked)) s.down
      (numbers_near (sent h) h.accepted h.acked (sent h - h.acked) (omega (arith, s.acked_accepted, s.accepted_sent)) s.in_window s.accepted_sent (omega (arith, s.acked_accepted, s.in_window)))
      (numbers_reach (sent h) h.acked (sent h - h.acked) s.in_window);
  each_once = s.each_once;
}

lose_keeps : (h : Link) (ns : List ℕ) → h.down ≡ ns → InStep h → InStep (lose h ns)
lose_keeps h [] e s = s
lose_keeps h (n ∷ ns) e s = record {
  acked_accepted = s.acked_accepted;
  accepted_sent = s.accepted_sent;
  in_window = s.in_window;
  up = s.up;
  down = (rw e at s.down).2;
  each_once = s.each_once;
}

garble_keeps : (h : Link) (ns : List ℕ) (told : Bool) → h.down ≡ ns → InStep h → InStep (garble h ns told)
garble_keeps h [] told e s = s
garble_keeps h (n ∷ ns) true e s = lose_keeps h (n ∷ ns) e s
garble_keeps h (n ∷ ns) false e s = record {
  acked_accepted = s.acked_accepted;
  accepted_sent = s.accepted_sent;
  in_window = s.in_window;
  up = Rise-append h.acked h.accepted h.accepted h.up (record { number = h.accepted; answer = [] } ∷ []) s.up (omega arith, omega arith);
  down = (rw e at s.down).2;
  each_once = s.each_once;
}

reply_keeps : (h : Link) (rs : List Reply) → h.up ≡ rs → InStep h → InStep (reply h rs)
reply_keeps h [] e s = s
reply_keeps h (r ∷ rs) e s =
    let up : Rise h.acked h.accepted (r ∷ rs) = rw e at s.up in
    let within : r.number ≤ h.accepted = Rise_within r.number h.accepted rs up.1 in
    let now : max h.acked r.number ≡ r.number = omega (arith, up.0) in
    record {
      acked_accepted = rw now within;
      accepted_sent = s.accepted_sent;
      in_window = rw now (omega (arith, s.in_window, up.0));
      up = rw (now, e) (omega arith, up.1);
      down = s.down;
      each_once = s.each_once;
    }

lose_reply_keeps : (h : Link) (rs : List Reply) → h.up ≡ rs → InStep h → InStep (lose_reply h rs)
lose_reply_keeps h [] e s = s
lose_reply_keeps h (r ∷ rs) e s =
    let up : Rise h.acked h.accepted (r ∷ rs) = rw e at s.up in
    record {
      acked_accepted = s.acked_accepted;
      accepted_sent = s.accepted_sent;
      in_window = s.in_window;
      up = Rise_lower h.acked r.number h.accepted rs up.0 up.1;
      down = s.down;
      each_once = s.each_once;
    }

-- the empty reply comes behind the answers
Rise_answered : (n : ℕ) (answers : List (List ℕ)) → Rise n n (numbered n answers ++ record { number = n; answer = [] } ∷ [])
Rise_answered n answers = Rise-append n n n (numbered n answers) (record { number = n; answer = [] } ∷ []) (Rise_numbered n answers) (omega arith, omega arith)

handle_keeps : (h : Link) (n : ℕ) (ns : List ℕ) (answers : List (List ℕ)) → h.down ≡ n ∷ ns → InStep h → InStep (handle h n answers)
handle_keeps h n ns answers e s =
    let near : AreNear (sent h) h.accepted (n ∷ ns) = rw e at s.down in
    elim (eqb_tells n h.accepted) [
      | inl p ↦
          let same : h.accepted ≡ n = sym p.1 in
          let At : ℕ → Type 0 = λ a. AreNear (sent h) a (n ∷ ns) in
          let next : AreNear (sent h) n (n ∷ ns) = subst At same near in
          let rest : AreNear (sent h) (n + 1) ns = AreNear_accepted (sent h) n ns next.1 next.2 in
          let up : Rise h.acked n h.up = rw same at s.up in
          let taken : h.taken ≡ commands (take n h.blocks) = rw same at s.each_once in
          rw p.0 (record {
            acked_accepted = omega (arith, s.acked_accepted, p.1);
            accepted_sent = omega (arith, near.0.was_sent);
            in_window = s.in_window;
            up = Rise-append h.acked n (n + 1) h.up (numbered (n + 1) answers ++ record { number = n + 1; answer = [] } ∷ []) up
                (Rise_lower n (n + 1) (n + 1) (numbered (n + 1) answers ++ record { number = n + 1; answer = [] } ∷ []) (omega arith) (Rise_answered (n + 1) answers));
            down = rw e (record { was_sent = near.0.was_sent; below = omega arith; above = omega arith }, next.1, rest);
            each_once = one_more h.taken h.blocks n near.0.was_sent taken;
          })
      | inr p ↦ rw p.0 (record {
        acked_accepted = s.acked_accepted;
        accepted_sent = s.accepted_sent;
        in_window = s.in_window;
        up = Rise-append h.acked h.accepted h.accepted h.up (record { number = h.accepted; answer = [] } ∷ []) s.up (omega arith, omega arith);
        down = s.down;
        each_once = s.each_once;
      })
    ]

repeat_keeps : (h : Link) (ns : List ℕ) (answers : List (List ℕ)) → h.down ≡ ns → InStep h → InStep (repeat h ns answers)
repeat_keeps h [] answers e s = s
repeat_keeps h (n ∷ ns) answers e s = handle_keeps h n ns answers e s

handle_down : (h : Link) (n : ℕ) (answers : List (List ℕ)) → (handle h n answers).down ≡ h.down
handle_down h n answers = elim (eqb_tells n h.accepted) [ inl p ↦ rw p.0 refl | inr p ↦ rw p.0 refl ]

pub repeat_down : (h : Link) (ns : List ℕ) (answers : List (List ℕ)) → (repeat h ns answers).down ≡ h.down
repeat_down h [] answers = refl
repeat_down h (n ∷ ns) answers = handle_down h n answers

pub happens_keeps : (h : Link) (e : Event) → InStep h → InStep (happens h e)
happens_keeps h (Put cs) s = queue_keeps h cs s
happens_keeps h (Control cs) s = queue_keeps h cs s
happens_keeps h Send s = send_keeps h h.waiting s
happens_keeps h Resend s = resend_keeps h s
happens_keeps h (Arrive answers) s =
    lose_keeps (repeat h h.down answers) h.down (repeat_down h h.down answers) (repeat_keeps h h.down answers refl s)
happens_keeps h (Repeat answers) s = repeat_keeps h h.down answers refl s
happens_keeps h (Garble told) s = garble_keeps h h.down told refl s
happens_keeps h Lose s = lose_keeps h h.down refl s
happens_keeps h Reply_comes s = reply_keeps h h.up refl s
happens_keeps h Lose_reply s = lose_reply_keeps h h.up refl s
happens_keeps h (Turn turn) s = record { acked_accepted = s.acked_accepted; accepted_sent = s.accepted_sent; in_window = s.in_window; up = s.up; down = s.down; each_once = s.each_once }
happens_keeps h (Pass answers) s = record {
  acked_accepted = s.acked_accepted;
  accepted_sent = s.accepted_sent;
  in_window = s.in_window;
  up = Rise-append h.acked h.accepted h.accepted h.up (numbered h.accepted answers) s.up (Rise_numbered h.accepted answers);
  down = s.down;
  each_once = s.each_once;
}

pub run_keeps : (events : List Event) (h : Link) → InStep h → InStep (run events h)
run_keeps [] h s = s
run_keeps (e ∷ events) h s = run_keeps events (happens h e) (happens_keeps h e s)

pub start_keeps : InStep new_link
start_keeps = record { acked_accepted = omega arith; accepted_sent = omega arith; in_window = omega arith; up = omega arith; down = tt; each_once = refl }
