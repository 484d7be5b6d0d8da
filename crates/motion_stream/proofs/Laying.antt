-- What was put stays as it is told.
use Rattle.std.proofs.Common.{◌≡◌, ℕ, ◌+◌, ◌<◌, ◌≤◌, Bool, true, false, List, [], ◌∷◌, ◌++◌, All, length, append-nil, append_assoc, length-append, refl, ap, sym, subst, ◌∙◌, arith, inl, inr}
use Rattle.std.proofs.lemmas.List.Elements.{All-append, All-cons, All-nil}
use Rattle.std.specs.Prelude.{◌&&◌, nat_le, Option, Some, None, if◌then◌else◌}
use Rattle.plan_types.specs.Sections.{is_home}
use Rattle.msg_code.specs.declared.talk.WordMsg.{WordMsg}
use Rattle.motion_stream.specs.declared.course.Course.{Course}
use Rattle.gcode_program.specs.Readers.{section_with}
use Rattle.msg_code.specs.declared.talk.Note.{Note}
use Rattle.msg_code.specs.declared.unit.Batch.{Batch}
use Rattle.gcode_program.specs.Programs.{program_sections}
use Rattle.plan_types.specs.declared.machine.Machine.{Machine}
use Rattle.plan_types.specs.declared.plan.SectionKind.{SectionKind}
use Rattle.plan_types.specs.declared.plan.SectionKind.TheVariants.{Home, Moves}
use Rattle.std.proofs.lemmas.Bool.Decides.{leb_tells}
use Rattle.step_feed.specs.Pacing.{Release, batch_at}
use Rattle.step_feed.specs.Units.{StepUnit}
use Rattle.motion_work.specs.Feeds.{units_at}
use Rattle.motion_work.specs.Puts.{ArePut, IsPut, Put, begun_notes}
use Rattle.motion_work.specs.Seen.{Started}
use Rattle.motion_work.specs.Told.{Told, heard, tells_homed}
use Rattle.motion_work.specs.Turns.{done_notes}
use Rattle.motion_work.proofs.Putting.{begun_stay, done_stay, out_more, put_more, same_on}
use Rattle.motion_stream.specs.Courses.{IsCourseOf, KnowsConnecting}
use Rattle.motion_stream.specs.Motions.{CanTurnPlanner, Hears, IsMore, IsPlannerOf, Makes, Planner, TakesText, started_until, begun_with, ended_in, going_with, hears_answer, read_on, with_lines, with_word}
use Rattle.motion_stream.specs.Puts.{ArePutBy, IsSeenBehind, IsNew, IsPutOf}
use Rattle.motion_stream.specs.Seen.{AreWhole, EndsBy, Going, Seen, nothing_seen}
use Rattle.motion_stream.proofs.ByKind.{answered_board, whole_moves}
use Rattle.motion_stream.specs.Texts.{MayBecome, ended_after, text_after}
use Rattle.motion_stream.proofs.Drawing.{boards_in_all, units_snoc}

-- before the first turn nothing was put
pub none_put : (m : Machine) → ArePutBy m nothing_seen []
none_put m = record { count = refl; put = λ whole all may. tt; started = λ whole all may. subst (λ (ss : List Started). All (λ s. s.start < 0 + 260) ss) (sym may.sections) (All-nil (λ (s : Started). s.start < 0 + 260)) }

-- what a text may become behind a piece, it may become before it
pub sooner_text : (ended end : Bool) (text bytes whole : List ℕ) → MayBecome (ended_after ended end) (text_after text ended bytes) whole → MayBecome ended text whole
sooner_text true end text bytes whole may = may
sooner_text false true text bytes whole may = (bytes, may)
sooner_text false false text bytes whole may = (bytes ++ may.0, may.1 ∙ append_assoc text bytes may.0)

pub sooner_whole : (m : Machine) (told : Option Told) (next : ℕ) (begun all : List Started) (old new : Option Going) → IsMore old new → AreWhole m told next begun new all → AreWhole m told next begun old all
sooner_whole m told next begun all None None more w = w
sooner_whole m told next begun all None (Some h) more w = absurd more
sooner_whole m told next begun all (Some g) None more w = absurd more
sooner_whole m None next begun all (Some g) (Some h) more w = w
sooner_whole m (Some t) next begun all (Some g) (Some h) more w = (
  w.0,
  w.1,
  record {
    section = w.2.section ∙ ap (λ k. section_with k w.0.section.moves h.dwell) more.kind ∙ ap (section_with g.kind w.0.section.moves) more.dwell;
    moves = more.moves w.0.section.moves w.2.moves;
    start = w.2.start ∙ more.start;
    ends = subst (λ k. EndsBy k m next w.0) more.kind w.2.ends;
    last = w.2.last ∙ more.last;
    moving = w.2.moving ∙ more.moving;
    same = λ b k lt below. w.2.same b k lt below ∙ ap (λ (r : ℕ → List Release). batch_at k (r b)) more.released;
  },
)

pub text_kept : (m : Machine) (seen : Seen) (ps : List Put) (bytes : List ℕ) (end : Bool) (going : Option Going) → IsMore seen.going going → ArePutBy m seen ps → ArePutBy m (read_on seen bytes end going) ps
text_kept m seen ps bytes end going more put = record {
  count = put.count;
  put = λ whole all may. put.put whole all (record { text = sooner_text seen.ended end seen.text bytes whole may.text; sections = sooner_whole m seen.told seen.next seen.begun all seen.going going more may.sections });
  started = λ whole all may. put.started whole all (record { text = sooner_text seen.ended end seen.text bytes whole may.text; sections = sooner_whole m seen.told seen.next seen.begun all seen.going going more may.sections });
}

pub text_put : (p q : Planner) (seen : Seen) (ps : List Put) (bytes : List ℕ) (end : Bool) → IsPlannerOf p seen → ArePutBy p.machine seen ps → TakesText p bytes end q → (going : Option Going) × IsPlannerOf q (read_on seen bytes end going) × ArePutBy q.machine (read_on seen bytes end going) ps
text_put p q seen ps bytes end of put reads =
    let r = reads.1 seen of in
    (r.0, r.2, subst (λ m. ArePutBy m (read_on seen bytes end r.0) ps) (sym reads.0) (text_kept p.machine seen ps bytes end r.0 r.1 put))

-- a section that is begun later changes no turn before it
put_stays : (m : Machine) (text : List ℕ) (begun : List Started) (s : Started) (k j : ℕ) (p : Put) → IsNew m k s → j < k → IsPut m text begun j p → IsPut m text (begun ++ s ∷ []) j p
put_stays m text begun s k j p new lt h =
    let B : List StepUnit → Batch = λ us. record { turn = j; units = us; end = false } in
    let st = new.start in
    let late = new.late in
    record {
      batches_are = h.batches_are ∙ same_on (λ b. B (units_at b j (boards_in_all begun))) (λ b. B (units_at b j (boards_in_all (begun ++ s ∷ [])))) 0 (length m.boards) (length m.boards) (omega arith)
          (λ b below. ap B (sym (units_snoc begun s b j ∙ ap (λ us. units_at b j (boards_in_all begun) ++ us) (new.none b j below (omega (arith, lt))) ∙ append-nil (units_at b j (boards_in_all begun)))));
      turn = h.turn;
      read = h.read;
      is_read = h.is_read;
      out = elim h.out [ inl none ↦ inl none | inr all ↦ inr (out_more (length m.boards) j (length (program_sections m text)) begun s all) ];
      further = h.further;
      are_further = h.are_further;
      news_are = h.news_are ∙ ap (λ x. x ++ (begun_notes j 0 begun ++ (h.read ++ h.further))) (done_stay j 0 begun s (λ e. omega (arith, e, late, st, lt)))
          ∙ ap (λ x. done_notes j 0 (begun ++ s ∷ []) ++ (x ++ (h.read ++ h.further))) (begun_stay j 0 begun s (λ e. omega (arith, e, st, lt)));
    }

puts_stay : (m : Machine) (text : List ℕ) (begun : List Started) (s : Started) (k j : ℕ) (ps : List Put) → IsNew m k s → j + length ps ≤ k → ArePut m text begun j ps → ArePut m text (begun ++ s ∷ []) j ps
puts_stay m text begun s k j [] new le h = tt
puts_stay m text begun s k j (p ∷ ps) new le h = (put_stays m text begun s k j p new (omega (arith, le)) h.0, puts_stay m text begun s k (j + 1) ps new (omega (arith, le)) h.1)

-- one more turn
pub turn_kept : (m : Machine) (seen next : Seen) (ps : List Put) (k : ℕ) (batches : List Batch) (note : Note) → k ≡ seen.next → IsSeenBehind m seen next k note.news → IsPutOf m seen next k batches note → ArePutBy m seen ps → ArePutBy m next (ps ++ record { batches = batches; note = note } ∷ [])
turn_kept m seen next ps k batches note at is puts put =
    let p : Put = record { batches = batches; note = note } in
    let count = put.count in
    let text : (whole : List ℕ) → MayBecome next.ended next.text whole → MayBecome seen.ended seen.text whole = λ whole may. subst (λ e. MayBecome e seen.text whole) is.ended (subst (λ (t : List ℕ). MayBecome next.ended t whole) is.text may) in
    let after = is.next in
    record {
      count = length-append ps (p ∷ []) ∙ omega (arith, count, after);
      put = λ whole all may.
          let g = is.grown all may.sections in
          let old : ArePut m whole g.old 0 ps = put.put whole g.old (record { text = text whole may.text; sections = g.whole }) in
          let now : ArePut m whole all 0 ps = elim g.are [
            | inl e ↦ subst (λ (ss : List Started). ArePut m whole ss 0 ps) (sym e) old
            | inr e ↦ subst (λ (ss : List Started). ArePut m whole ss 0 ps) (sym e.1) (puts_stay m whole g.old e.0 k 0 ps e.2 (omega (arith, count, at)) old)
          ] in
          put_more m whole all 0 ps p k (omega (arith, count, at)) now (puts (λ other w. subst (λ n. All (λ (s : Started). s.start < n + 260) other) (sym at) (put.started whole other (record { text = text whole may.text; sections = w }))) whole all may);
      started = λ whole all may.
          let g = is.grown all may.sections in
          let P : Started → Type 0 = λ s. s.start < next.next + 260 in
          let old : All P g.old = (λ i d lt. let h = put.started whole g.old (record { text = text whole may.text; sections = g.whole }) i d lt in omega (arith, h, after)) in
          elim g.are [
            | inl e ↦ subst (All P) (sym e) old
            | inr e ↦ (let st = e.2.start in subst (All P) (sym e.1) (All-append P g.old (e.0 ∷ []) old (All-cons P e.0 [] (omega (arith, st, at, after)) (All-nil P))))
          ];
    }

pub turn_put : (p q : Planner) (seen : Seen) (ps : List Put) (k : ℕ) (batches : List Batch) (note : Note) → IsPlannerOf p seen → ArePutBy p.machine seen ps → CanTurnPlanner p k → Makes p k batches note q → (next : Seen) × IsPlannerOf q next × ArePutBy q.machine next (ps ++ record { batches = batches; note = note } ∷ [])
turn_put p q seen ps k batches note of put can makes =
    let t = makes.1 seen of in
    let at : k ≡ seen.next = sym can.next ∙ of.next in
    (t.0, subst (λ m. IsCourseOf m q.course t.0) (sym makes.0) t.3, subst (λ m. ArePutBy m t.0 (ps ++ record { batches = batches; note = note } ∷ [])) (sym makes.0) (turn_kept p.machine seen t.0 ps k batches note at t.1 t.2 put))

-- lines that a word tells
pub lines_whole : (m : Machine) (next : ℕ) (w : WordMsg) (told : Option Told) (begun all : List Started) (going : Option Going) → (told ≡ None → going ≡ None) → AreWhole m (heard m next w told) next begun going all → AreWhole m told next begun going all
lines_whole m next w None begun all None h a = a
lines_whole m next w None begun all (Some g) h a = absurd (some_none (h refl)) where
  some_none : Some g ≡ None → ⊥
  some_none e = cc
lines_whole m next w (Some t) begun all going h a = a

pub heard_none : (m : Machine) (next : ℕ) (w : WordMsg) (told : Option Told) (going : Option Going) → (told ≡ None → going ≡ None) → heard m next w told ≡ None → going ≡ None
heard_none m next w None going none e = none refl
heard_none m next w (Some t) going none e = absurd (some_none e) where
  some_none : Some t ≡ None → ⊥
  some_none p = cc

pub none_going : (m : Machine) (c : Course) (told : Option Told) (begun : List Started) (going : Option Going) → KnowsConnecting m c told begun going → told ≡ None → going ≡ None
none_going m c None begun going h e = h.2
none_going m c (Some t) begun going h e = absurd (some_none e) where
  some_none : Some t ≡ None → ⊥
  some_none e = cc

-- An answer leaves of the whole sections that may be those where the one that homes ends by it.
ends_home : (kind : SectionKind) (m : Machine) (next : ℕ) (x : Started) → is_home kind ≡ true → x.end ≡ next → x.start ≤ next → EndsBy kind m next x
ends_home Moves m next x home end start = absurd cc
ends_home (Home axis) m next x home end start = omega (arith, end, start)

one_whole : (m : Machine) (told : Option Told) (next : ℕ) (begun all : List Started) (g : Going) (waits : Bool) → (is_home g.kind && nat_le g.start next) ≡ waits → AreWhole m told next (begun_with begun (if waits then Some (started_until m next g) else None)) (going_with (Some g) (if waits then Some (started_until m next g) else None)) all → (told ≡ None → ⊥)
    → AreWhole m told next begun (Some g) all
one_whole m told next begun all g false e w on = w
one_whole m None next begun all g true e w on = absurd (on refl)
one_whole m (Some t) next begun all g true e w on =
    let home = both (is_home g.kind) (nat_le g.start next) e in
    let start : g.start ≤ next = elim (leb_tells g.start next) [ inl p ↦ p.1 | inr p ↦ absurd (clash (sym home.1 ∙ p.0)) ] in (
      started_until m next g,
      w,
      record {
        section = refl;
        moves = whole_moves g.goes g.moves;
        start = refl;
        ends = ends_home g.kind m next (started_until m next g) home.0 refl start;
        last = refl;
        moving = refl;
        same = λ b k lt below. ap (batch_at k) (answered_board m next g b lt);
      },
    )
  where
    clash : true ≡ false → ⊥
    clash p = cc

    both : (a b : Bool) → (a && b) ≡ true → (a ≡ true) × (b ≡ true)
    both true b e = (refl, e)
    both false b e = absurd (clash (sym e))

going_whole : (m : Machine) (told : Option Told) (next : ℕ) (begun all : List Started) (going : Option Going) (tells : Bool) → (told ≡ None → going ≡ None) → AreWhole m told next (begun_with begun (if tells then hears_answer m next going else None)) (going_with going (if tells then hears_answer m next going else None)) all
    → AreWhole m told next begun going all
going_whole m told next begun all going false on w = w
going_whole m told next begun all None true on w = w
going_whole m told next begun all (Some g) true on w = one_whole m told next begun all g (is_home g.kind && nat_le g.start next) refl w (λ e. some_none (on e)) where
  some_none : Some g ≡ None → ⊥
  some_none e = cc

pub answer_whole : (m : Machine) (seen : Seen) (w : WordMsg) → (seen.told ≡ None → seen.going ≡ None) → (all : List Started) → AreWhole m seen.told seen.next (begun_with seen.begun (ended_in m seen w)) (going_with seen.going (ended_in m seen w)) all → AreWhole m seen.told seen.next seen.begun seen.going all
answer_whole m seen w on all a = going_whole m seen.told seen.next seen.begun all seen.going (tells_homed w.news) on a

word_kept : (m : Machine) (c : Course) (seen : Seen) (ps : List Put) (w : WordMsg) → IsCourseOf m c seen → ArePutBy m seen ps → ArePutBy m (with_word m seen w) ps
word_kept m c seen ps w h put =
    let none = none_going m c seen.told seen.begun seen.going h.told in
    let was : (all : List Started) → AreWhole m (with_word m seen w).told seen.next (with_word m seen w).begun (with_word m seen w).going all → AreWhole m seen.told seen.next seen.begun seen.going all =
    λ all a. lines_whole m seen.next w seen.told seen.begun all seen.going none (answer_whole m (with_lines m seen w) w (heard_none m seen.next w seen.told seen.going none) all a) in
    record {
      count = put.count;
      put = λ whole all may. put.put whole all (record { text = may.text; sections = was all may.sections });
      started = λ whole all may. put.started whole all (record { text = may.text; sections = was all may.sections });
    }

pub word_put : (p q : Planner) (seen : Seen) (ps : List Put) (w : WordMsg) → IsPlannerOf p seen → ArePutBy p.machine seen ps → Hears p w q → IsPlannerOf q (with_word p.machine seen w) × ArePutBy q.machine (with_word p.machine seen w) ps
word_put p q seen ps w of put hears = (hears.1 seen of, subst (λ x. ArePutBy x (with_word p.machine seen w) ps) (sym hears.0) (word_kept p.machine p.course seen ps w of put))
