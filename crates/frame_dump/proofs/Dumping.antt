-- The lines of a dump, one behind the other.
use Rattle.std.proofs.Common.{◌≡◌, ◌∙◌, ◌==◌, ℕ, ◌+◌, ◌-◌, ◌%◌, ◌<◌, ◌≤◌, Bool, true, false, cond, List, [], ◌∷◌, ◌++◌, length, take, drop, get_or, refl, ap, sym, subst, arith, append-nil, append_assoc, take-append-drop, length-drop}
use Rattle.std.proofs.Math.Seq.{take-length}
use Rattle.std.specs.Prelude.{IsTrue, ◌↔◌}
use Rattle.std.proofs.lemmas.Bool.Decides.{nat_tests}
use Rattle.arrayvec.specs.ArrayVec.{ArrayVec}
use Rattle.block_frame.specs.declared.Found.{Found}
use Rattle.block_frame.specs.declared.Found.TheVariants.{Block, Skip, NeedMore, Bad}
use Rattle.block_frame.specs.Scanned.{Scans}
use Rattle.msg_dict.specs.Dictionary.{Named}
use Rattle.msg_code.specs.declared.cmd.Cmd.{Cmd}
use Rattle.msg_code.specs.declared.CodeFault.{CodeFault}
use Rattle.msg_code.specs.Text.{IsText, Refuses}
use Rattle.board_sim.proofs.Hearing.{takes_some}
use Rattle.board_sim.proofs.Parts.{drop_twice}
use Rattle.frame_dump.specs.declared.line.DumpLine.{DumpLine}
use Rattle.frame_dump.specs.declared.line.DumpLine.TheVariants as line
use Rattle.frame_dump.specs.declared.trace.TraceTurn.{TraceTurn}
use Rattle.frame_dump.specs.Things.{HasNumber, Thing, AreIn, AreThings, all_taken, is_taken, taken_behind}
use Rattle.frame_dump.specs.Dumps.{AddsLines, AreContent, IsBlockIn, IsDump, ShowAll, Shows, end_behind, open_lines}
use Rattle.frame_dump.specs.Sofar.{DumpSofar, LineSofar, ListsLine}
use Rattle.block_frame.proofs.Only.{needs_none}
use Rattle.msg_code.proofs.Parameters.{rest_all}

-- a content
pub content_none : (es : List Named) (content : List ℕ) (xs : List DumpLine) → content ≡ [] → AddsLines (AreContent es content) xs xs
content_none es content xs none = ([], none, sym (append-nil xs))

pub content_more : (es : List Named) (content : List ℕ) (len : ℕ) (c : Cmd) (xs ys zs : List DumpLine) → IsText es c (take len content) → ys ≡ xs ++ line.Command c ∷ []
    → AddsLines (AreContent es (take (length content - len) (drop len content))) ys zs → AddsLines (AreContent es content) xs zs
content_more es content len c xs ys zs is pushed (more, are, added) =
    let At : List ℕ → Type 0 = λ t. AreContent es t more in (
      line.Command c ∷ more,
      record { first = take len content; rest = drop len content; is_first = is; is_rest = subst At (rest_all len content) are; joined = sym (take-append-drop len content) },
      added ∙ ap (λ (l : List DumpLine). l ++ more) pushed ∙ append_assoc xs (line.Command c ∷ []) more,
    )

pub content_rest : (es : List Named) (content : List ℕ) (kind : CodeFault) (xs ys : List DumpLine) → (content ≡ [] → ⊥) → Refuses es content kind → ys ≡ xs ++ line.Rest (length content) kind ∷ []
    → AddsLines (AreContent es content) xs ys
content_rest es [] kind xs ys some refuses pushed = absurd (some refl)
content_rest es (b ∷ content) kind xs ys some refuses pushed = (line.Rest (length (b ∷ content)) kind ∷ [], (omega arith, refl, refuses, refl), pushed)

-- a block
same_test : (accepted : Bool) (number end : ℕ) → IsTrue accepted ↔ (number ≡ end) → accepted ≡ (number == end)
same_test true number end (to, from) = let e : number ≡ end = to refl in grind (arith, nat_tests)
same_test false number end (to, from) = let e : number ≡ end → ⊥ = λ h. no (from h) in grind (arith, nat_tests)
  where
    no : IsTrue false → ⊥
    no h = cc

pub block_listed : (es : List Named) (turn number end : ℕ) (accepted : Bool) (content : List ℕ) (xs ys zs : List DumpLine) → IsTrue accepted ↔ (number ≡ end) → ys ≡ xs ++ line.Block turn number accepted ∷ []
    → AddsLines (AreContent es content) ys zs → AddsLines (IsBlockIn es turn number end content) xs zs
block_listed es turn number end accepted content xs ys zs test pushed (more, are, added) = (
  line.Block turn number accepted ∷ more,
  (more, are, ap (λ (b : Bool). line.Block turn number b ∷ more) (same_test accepted number end test)),
  added ∙ ap (λ (l : List DumpLine). l ++ more) pushed ∙ append_assoc xs (line.Block turn number accepted ∷ []) more,
)

pub found_block : (es : List Named) (f : Found) (turn number end count taken : ℕ) (content : ArrayVec ℕ) (xs zs : List DumpLine) → f ≡ Block number content → end ≡ taken % 16
    → AddsLines (IsBlockIn es turn number end content.items) xs zs → AddsLines (Shows es taken turn f count) xs zs
found_block es f turn number end count taken content xs zs is same adds =
    let At : ℕ → Type 0 = λ e. AddsLines (IsBlockIn es turn number e content.items) xs zs in
    let Of : Found → Type 0 = λ g. AddsLines (Shows es taken turn g count) xs zs in
    subst Of (sym is) (subst At same adds)

pub next_number : (taken : ℕ) → (taken % 16 + 1) % 16 ≡ (taken + 1) % 16
next_number taken = omega arith

behind : (b : Bool) (taken : ℕ) → cond b ((taken % 16 + 1) % 16) (taken % 16) ≡ cond b (taken + 1) taken % 16
behind true taken = next_number taken
behind false taken = refl

pub block_behind : (f : Found) (number end taken : ℕ) (content : ArrayVec ℕ) → f ≡ Block number content → end ≡ taken % 16 → end_behind end number ≡ taken_behind taken f % 16
block_behind f number end taken content is same =
    ap (λ (e : ℕ). end_behind e number) same ∙ behind (number == taken % 16) taken ∙ ap (λ (g : Found). taken_behind taken g % 16) (sym is)

pub has_number : (d : Bool) (bytes : List ℕ) (f : Found) (count : ℕ) (next : Bool) → Scans d bytes f count next → HasNumber f
has_number false bytes (Block number content) count next s = s.0.small
has_number true bytes (Block number content) count next s = absurd s
has_number d bytes Skip count next s = tt
has_number d bytes NeedMore count next s = tt
has_number d bytes Bad count next s = tt

-- the bytes of a turn
show_push : (es : List Named) (taken : ℕ) (ts : List Thing) (t : Thing) (lines more : List DumpLine) → ShowAll es taken ts lines → Shows es (all_taken taken ts) t.turn t.found t.count more
    → ShowAll es taken (ts ++ t ∷ []) (lines ++ more)
show_push es taken [] t lines more none shows = (more, [], ap (λ (l : List DumpLine). l ++ more) none ∙ sym (append-nil more), shows, refl)
show_push es taken (u ∷ ts) t lines more (first, rest, is, one, others) shows =
    (first, rest ++ more, ap (λ (l : List DumpLine). l ++ more) is ∙ append_assoc first rest more, one, show_push es (taken_behind taken u.found) ts t rest more others shows)

pub taken_append : (taken : ℕ) (ts us : List Thing) → all_taken taken (ts ++ us) ≡ all_taken (all_taken taken ts) us
taken_append taken [] us = refl
taken_append taken (t ∷ ts) us = taken_append (taken_behind taken t.found) ts us

pub show_append : (es : List Named) (taken : ℕ) (ts us : List Thing) (lines more : List DumpLine) → ShowAll es taken ts lines → ShowAll es (all_taken taken ts) us more → ShowAll es taken (ts ++ us) (lines ++ more)
show_append es taken [] us lines more none shows = let P : List DumpLine → Type 0 = λ l. ShowAll es taken us (l ++ more) in subst P (sym none) shows
show_append es taken (u ∷ ts) us lines more (first, rest, is, one, others) shows =
    (first, rest ++ more, ap (λ (l : List DumpLine). l ++ more) is ∙ append_assoc first rest more, one, show_append es (taken_behind taken u.found) ts us rest more others shows)

pub line_none : (es : List Named) (turn taken : ℕ) (d : Bool) (bytes : List ℕ) (before : List DumpLine) (end : ℕ) → end ≡ taken % 16 → LineSofar es turn taken d bytes before 0 d end before
line_none es turn taken d bytes before end same = record {
  things = [];
  lines = [];
  within = omega arith;
  more = λ ts left last r. r;
  shows = refl;
  number = same;
  added = sym (append-nil before);
}

pub line_more : (es : List Named) (turn taken : ℕ) (d d1 d2 : Bool) (bytes : List ℕ) (xs ys zs : List DumpLine) (at count end end' : ℕ) (f : Found) → LineSofar es turn taken d bytes xs at d1 end ys
    → Scans d1 (drop at bytes) f count d2 → (f ≡ NeedMore → ⊥) → ((k : ℕ) → end ≡ k % 16 → AddsLines (Shows es k turn f count) ys zs) → ((k : ℕ) → end ≡ k % 16 → end' ≡ taken_behind k f % 16)
    → LineSofar es turn taken d bytes xs (at + count) d2 end' zs
line_more es turn taken d d1 d2 bytes xs ys zs at count end end' f h scans other shows numbers =
    let took = takes_some d1 (drop at bytes) f count d2 scans other in
    let k = all_taken taken h.things in
    let one = shows k h.number in
    let t : Thing = record { turn = turn; found = f; count = count } in
    record {
      things = h.things ++ t ∷ [];
      lines = h.lines ++ one.0;
      within = omega (arith, took.1, h.within, length-drop at bytes);
      more = λ ts left last r.
          let At_rest : List ℕ → Type 0 = λ rest. AreIn turn d2 rest ts left last in
          let rest : AreIn turn d2 (drop count (drop at bytes)) ts left last = subst At_rest (sym (drop_twice at count bytes)) r in
          let Whole : List Thing → Type 0 = λ us. AreIn turn d bytes us left last in
          subst Whole (sym (append_assoc h.things (t ∷ []) ts)) (h.more (t ∷ ts) left last (d2, refl, took.0, scans, rest));
      shows = show_push es taken h.things t h.lines one.0 h.shows one.1;
      number = numbers k h.number ∙ ap (λ (n : ℕ). n % 16) (sym (taken_append taken h.things (t ∷ [])));
      added = one.2 ∙ ap (λ (l : List DumpLine). l ++ one.0) h.added ∙ append_assoc xs h.lines one.0;
    }

pub line_end : (es : List Named) (turn taken : ℕ) (d d1 d2 : Bool) (bytes : List ℕ) (xs ys : List DumpLine) (at count end : ℕ) → LineSofar es turn taken d bytes xs at d1 end ys
    → Scans d1 (drop at bytes) NeedMore count d2 → ListsLine es turn taken d bytes xs (drop at bytes) d2 end ys
line_end es turn taken d d1 d2 bytes xs ys at count end h scans =
    let At : ℕ → Type 0 = λ k. Scans d1 (drop at bytes) NeedMore k d2 in
    let Whole : List Thing → Type 0 = λ us. AreIn turn d bytes us (drop at bytes) d2 in
    record {
      things = h.things;
      lines = h.lines;
      are = subst Whole (append-nil h.things) (h.more [] (drop at bytes) d2 (subst At (needs_none d1 (drop at bytes) count d2 scans) scans, refl));
      shows = h.shows;
      number = h.number;
      added = h.added;
    }

pub turn_listed : (es : List Named) (turn taken : ℕ) (d d1 : Bool) (line left bytes left' : List ℕ) (count end : ℕ) (xs ys : List DumpLine) → line ≡ left ++ bytes → left' ≡ drop count line
    → ListsLine es turn taken d line xs (drop count line) d1 end ys → ListsLine es turn taken d (left ++ bytes) xs left' d1 end ys
turn_listed es turn taken d d1 line left bytes left' count end xs ys is kept h =
    let At : List ℕ → Type 0 = λ l. ListsLine es turn taken d l xs left' d1 end ys in
    let Left : List ℕ → Type 0 = λ l. ListsLine es turn taken d line xs l d1 end ys in
    subst At is (subst Left (sym kept) h)

-- the turns of a trace
pub dump_none : (es : List Named) (turns : List TraceTurn) (waiting : List ℕ) (d : Bool) (end : ℕ) (xs : List DumpLine) → waiting ≡ [] → d ≡ false → end ≡ 0 → xs ≡ [] → DumpSofar es turns turns waiting d end xs
dump_none es turns waiting d end xs none new first empty = record {
  things = [];
  more = λ ts waits r.
      let At : List ℕ → Type 0 = λ l. AreThings d l turns ts waits in
      let Of : Bool → Type 0 = λ b. AreThings b [] turns ts waits in
      subst Of new (subst At none r);
  shows = empty;
  number = first;
}

pub split : {X : Type 0} → (xs : List X) (x : X) → 1 ≤ length xs → x ≡ get_or xs 0 x → xs ≡ x ∷ drop 1 xs
split [] x h e = absurd (omega arith)
split (y ∷ xs) x h e = ap (λ z. z ∷ xs) (sym e)

pub dump_more : (es : List Named) (turns rest : List TraceTurn) (t : TraceTurn) (left left' : List ℕ) (d d' : Bool) (end end' : ℕ) (xs ys : List DumpLine) → DumpSofar es turns rest left d end xs
    → 1 ≤ length rest → t ≡ get_or rest 0 t → ((taken : ℕ) → end ≡ taken % 16 → ListsLine es t.turn taken d (left ++ t.bytes) xs left' d' end' ys)
    → DumpSofar es turns (take (length rest - 1) (drop 1 rest)) left' d' end' ys
dump_more es turns rest t left left' d d' end end' xs ys h some is lists =
    let others = drop 1 rest in
    let l = lists (all_taken 0 h.things) h.number in
    let At : List TraceTurn → Type 0 = λ rs. DumpSofar es turns rs left' d' end' ys in
    subst At (sym (rest_all 1 rest)) (record {
      things = h.things ++ l.things;
      more = λ ts waits r.
          let Whole : List Thing → Type 0 = λ us. AreThings false [] turns us waits in
          let Of : List TraceTurn → Type 0 = λ rs. AreThings d left rs (l.things ++ ts) waits in
          subst Whole (sym (append_assoc h.things l.things ts)) (h.more (l.things ++ ts) waits (subst Of (sym (split rest t some is)) (l.things, ts, left', d', refl, l.are, r)));
      shows = let Lines : List DumpLine → Type 0 = λ us. ShowAll es 0 (h.things ++ l.things) us in subst Lines (sym l.added) (show_append es 0 h.things l.things xs l.lines h.shows l.shows);
      number = l.number ∙ ap (λ (n : ℕ). n % 16) (sym (taken_append 0 h.things l.things));
    })

pub at_end : {X : Type 0} → (xs : List X) → length xs < 1 → xs ≡ []
at_end [] h = refl
at_end (x ∷ xs) h = absurd (omega arith)

pub whole : (es : List Named) (turns rest : List TraceTurn) (left : List ℕ) (d : Bool) (end : ℕ) (xs ys : List DumpLine) → DumpSofar es turns rest left d end xs → length rest < 1 → ys ≡ xs ++ open_lines left
    → IsDump es turns ys
whole es turns rest left d end xs ys h none is =
    let Of : List TraceTurn → Type 0 = λ rs. AreThings d left rs [] left in
    let Whole : List Thing → Type 0 = λ us. AreThings false [] turns us left in
    record {
      things = h.things;
      waits = left;
      shown = xs;
      are = subst Whole (append-nil h.things) (h.more [] left (subst Of (sym (at_end rest none)) (refl, refl)));
      shows = h.shows;
      lines_are = is;
    }
