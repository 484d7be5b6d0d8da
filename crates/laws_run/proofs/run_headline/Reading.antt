-- The text that a planner read in a whole run is that of the file.
use Rattle.std.proofs.Common.{◌≡◌, ℕ, zero, suc, ◌+◌, ◌<◌, ◌⊎◌, Bool, true, false, List, [], ◌∷◌, ◌++◌, drop, take, length, Option, Some, None, refl, ap, sym, ◌∙◌, subst, arith, inl, inr, append-nil}
use Rattle.laws_board.proofs.Names.{leb_tells, take-append-drop, Cause, ReportLine, Run, MotionTurn, ReactorTurn, gather}
use Rattle.std.specs.Prelude.{nat_lt}
use Rattle.io_core.specs.declared.traits.Files.{Ghosts as Files}
use Rattle.io_core.specs.declared.traits.Sink.{Ghosts as Sink}
use Rattle.msg_code.specs.declared.talk.Piece.{Piece}
use Rattle.session_work.specs.declared.head.Head.{Head}
use Rattle.session_work.specs.Bares.{stop_piece}
use Rattle.session_work.specs.Heads.{Ordering, ReactorStep, ServeStep, Served, Wrote}
use Rattle.session_work.specs.Turns.{Goes}
use Rattle.session_run.specs.declared.desk.Desk.{Desk}
use Rattle.session_run.specs.Desks.{Desked, desk_out}
use Rattle.session_run.specs.Reads.{IsNextPiece}
use Rattle.session_run.specs.Machines.{reactor}
use Rattle.motion_stream.specs.Texts.{MayBecome}
use Rattle.laws_board.specs.plans.Planned.{ReadText, nothing_read, read_all, read_by, read_on}

-- the first bytes of a text, and the piece behind them
take_none : (k : ℕ) → take {A = ℕ} k [] ≡ []
take_none zero = refl
take_none (suc k) = refl

take_on : (at n : ℕ) (xs : List ℕ) → take at xs ++ take n (drop at xs) ≡ take (at + length (take n (drop at xs))) xs
take_on zero zero [] = sym (take_none (0 + 0))
take_on zero (suc n) [] = sym (take_none (0 + 0))
take_on (suc at) zero [] = sym (take_none (suc at + 0))
take_on (suc at) (suc n) [] = sym (take_none (suc at + 0))
take_on zero n (x ∷ xs) = first n (x ∷ xs)
  where
    first : (n : ℕ) (ys : List ℕ) → take n ys ≡ take (0 + length (take n ys)) ys
    first zero ys = refl
    first (suc n) [] = refl
    first (suc n) (y ∷ ys) =
        let e : 0 + length (take n ys) ≡ length (take n ys) = omega arith in
        let f : 0 + suc (length (take n ys)) ≡ suc (length (take n ys)) = omega arith in
        ap (λ z. y ∷ z) (first n ys ∙ ap (λ i. take i ys) e) ∙ ap (λ i. take i (y ∷ ys)) (sym f)
take_on (suc at) n (x ∷ xs) =
    let e : suc (at + length (take n (drop at xs))) ≡ suc at + length (take n (drop at xs)) = omega arith in
    ap (λ z. x ∷ z) (take_on at n xs) ∙ ap (λ i. take i (x ∷ xs)) e

take_few : (n : ℕ) (xs : List ℕ) → length (take n xs) < n → take n xs ≡ xs
take_few zero xs h = absurd (omega (arith, h))
take_few (suc n) [] h = refl
take_few (suc n) (x ∷ xs) h = ap (λ z. x ∷ z) (take_few n xs (omega (arith, h)))

module _ {F S : Type 0} (f : Files F) (o : Sink S) (name bytes : List ℕ) where
  abbrev pub D : Type 0
  D = Desk F S

  -- what was read so far, up to where a desk stands
  pub record So (r : ReadText) (x : D) : Type 0 where
    pub name_is : x.name.now ≡ name
    pub told : f.told x.files.now name ≡ Some bytes
    pub front : r.bytes ≡ take x.kept.now.at bytes
    pub whole : r.ended ≡ true → r.bytes ≡ bytes

  -- a desk that stands where it stood
  still : (r : ReadText) (x y : D) (lines : List ReportLine) → Desked f o x lines y → y.kept.now.at ≡ x.kept.now.at → So r x → So r y
  still r x y lines d at h = record {
    name_is = d.0.4 ∙ h.name_is;
    told = d.1.told name ∙ h.told;
    front = h.front ∙ ap (λ i. take i bytes) (sym at);
    whole = h.whole;
  }

  is_end : (n : ℕ) (e : Bool) → e ≡ nat_lt n 4_096 → e ≡ true → n < 4_096
  is_end n e is h = elim (leb_tells (suc n) 4_096) [ inl p ↦ p.1 | inr p ↦ absurd (let g : true ≡ false = sym h ∙ is ∙ p.0 in cc) ]

  -- a piece more
  one : (i : ℕ) (r : ReadText) (x : Head Run D) (p : Piece) (y : Head Run D) → ServeStep reactor.stops (desk_out f o).serves i x p y → So r x.outside → So (read_on r p) y.outside
  one i r x p y (inl s) h =
      let served = s.0 in
      let desked = served.0 in
      let next = served.1.0 in
      let at = x.outside.kept.now.at in
      let Named : List ℕ → Type 0 = λ n. IsNextPiece f n x.outside.files.now at p y.outside.kept.now.at in
      let here = subst Named h.name_is next in
      let is = here.2 bytes h.told in
      let all = ap (λ b. b ++ p.bytes) h.front ∙ ap (λ b. take at bytes ++ b) is.bytes_are in
      let size : at + length (take 4_096 (drop at bytes)) ≡ y.outside.kept.now.at = ap (λ b. at + length b) (sym is.bytes_are) ∙ sym here.0 in
      record {
        name_is = desked.0.4 ∙ h.name_is;
        told = desked.1.told name ∙ h.told;
        front = all ∙ take_on at 4_096 bytes ∙ ap (λ i. take i bytes) size;
        whole = λ e.
            let few = is_end (length p.bytes) p.end is.end_is e in
            let short = take_few 4_096 (drop at bytes) (omega (arith, ap length is.bytes_are, few)) in
            all ∙ ap (λ b. take at bytes ++ b) short ∙ take-append-drop at bytes;
      }
  one i r x p y (inr s) h =
      let served = s.1 in
      let next = still r x.outside y.outside [] served.0 served.1.3 h in
      let none : p.bytes ≡ [] = ap (λ (q : Piece). q.bytes) s.4 in
      record {
        name_is = next.name_is;
        told = next.told;
        front = ap (λ b. r.bytes ++ b) none ∙ append-nil r.bytes ∙ next.front;
        whole = λ e. absurd (let g : false ≡ true = sym (ap (λ (q : Piece). q.end) s.4) ∙ e in cc);
      }

  -- what is read of the first pieces of some is the beginning of the text, and all of it where it ended
  abbrev pub Ends : ReadText → Type 0
  Ends r = MayBecome r.ended r.bytes bytes

  ends_of : (r : ReadText) (x : D) → So r x → Ends r
  ends_of r x h = by r.ended refl
    where
      by : (e : Bool) → r.ended ≡ e → MayBecome e r.bytes bytes
      by true e = sym (h.whole e)
      by false e = (drop x.kept.now.at bytes, sym (take-append-drop x.kept.now.at bytes) ∙ ap (λ z. z ++ drop x.kept.now.at bytes) (sym h.front))

  record Goes_on (r : ReadText) (ps : List Piece) (y : D) (rest qs more : List Piece) : Type 0 where
    later : List Piece
    cut : qs ≡ ps ++ later
    so : So (read_all r ps) y
    left : rest ≡ later ++ more

  many : (i k : ℕ) (r : ReadText) (x : Head Run D) (ps : List Piece) (y : Head Run D) (rest qs more : List Piece) → Goes (λ _. ServeStep reactor.stops (desk_out f o).serves i) k x ps y → So r x.outside → ps ++ rest ≡ qs ++ more
      → Ends (read_all r qs) ⊎ Goes_on r ps y.outside rest qs more
  many i k r x [] y rest qs more g h e = let At : Head Run D → Type 0 = λ z. So r z.outside in inr (record { later = qs; cut = refl; so = subst At g h; left = e })
  many i k r x (p ∷ ps) y rest [] more g h e = inl (ends_of r x.outside h)
  many i k r x (p ∷ ps) y rest (q ∷ qs) more g h e =
      let first : p ≡ q = cc in
      let then : ps ++ rest ≡ qs ++ more = cc in
      let At : Piece → Type 0 = λ z. Ends (read_all (read_on r z) qs) in
      elim (many i (k + 1) (read_on r p) g.0 ps y rest qs more g.2 (one i r x p g.0 g.1 h) then) [
        | inl w ↦ inl (subst At first w)
        | inr w ↦ inr (record { later = w.later; cut = ap (λ z. z ∷ qs) (sym first) ∙ ap (λ z. p ∷ z) w.cut; so = w.so; left = w.left })
      ]

  all_read : (r : ReadText) (ps qs : List Piece) → read_all r (ps ++ qs) ≡ read_all (read_all r ps) qs
  all_read r [] qs = refl
  all_read r (p ∷ ps) qs = all_read (read_on r p) ps qs

  -- a turn's lines move no place in the text
  wrote : (r : ReadText) (x : Head Run D) (a : Run) (t : ReactorTurn) (y : Head Run D) → Wrote reactor.stops (desk_out f o).writes (record { machine = a; outside = x.outside; stopped = x.stopped }) t.lines y → So r x.outside → So r y.outside
  wrote r x a t y (_, inl w) h = still r x.outside y.outside t.lines w.0.0 w.0.1.0 h
  wrote r x a t y (_, inr w) h = still r x.outside y.outside t.lines w.0.0 w.0.1.0 h

  ordered : (n k : ℕ) (r : ReadText) (x : Head Run D) (t : ReactorTurn) (b : Head Run D) → Ordering reactor (desk_out f o) n k x t b → So r x.outside → So r b.outside
  ordered n k r x t b (_, inl l) h = wrote r x l.1.0 t b l.1.2 h
  ordered n k r x t b (_, inr l) h = let At : D → Type 0 = λ z. So r z in subst At (sym l.4) h

  -- the last piece of a run says that nothing comes
  last_piece : (r : ReadText) (x : D) (k i : ℕ) → So r x → So (read_on r (stop_piece k i)) x
  last_piece r x k i h = record { name_is = h.name_is; told = h.told; front = append-nil r.bytes ∙ h.front; whole = λ e. let g : false ≡ true = e in cc }

  served : (k : ℕ) (end : Option Cause) (r : ReadText) (x : Head Run D) (ps : List Piece) (y : Head Run D) (rest qs more : List Piece) → Served reactor (desk_out f o) k x end ps y → So r x.outside → ps ++ rest ≡ qs ++ more
      → Ends (read_all r qs) ⊎ Goes_on r ps y.outside rest qs more
  served k None r x ps y rest qs more g h e = many k 0 r x ps y rest qs more g h e
  served k (Some c) r x ps y rest qs more g h e = alone ps qs g.0.1 e
    where
      alone : (ps qs : List Piece) → ps ≡ stop_piece k g.0.0 ∷ [] → ps ++ rest ≡ qs ++ more → Ends (read_all r qs) ⊎ Goes_on r ps y.outside rest qs more
      alone ps [] is e = inl (ends_of r x.outside h)
      alone ps (q ∷ qs) is e =
          let now : stop_piece k g.0.0 ∷ rest ≡ q ∷ (qs ++ more) = ap (λ z. z ++ rest) (sym is) ∙ e in
          let first : stop_piece k g.0.0 ≡ q = cc in
          let then : rest ≡ qs ++ more = cc in
          let At : Head Run D → Type 0 = λ z. So (read_on r (stop_piece k g.0.0)) z.outside in
          let Of : List Piece → Type 0 = λ z. So (read_all r z) y.outside in
          inr (record {
            later = qs;
            cut = ap (λ z. z ∷ qs) (sym first) ∙ ap (λ z. z ++ qs) (sym is);
            so = subst Of (sym is) (subst At g.1 (last_piece r x.outside k g.0.0 h));
            left = then;
          })

  pub turns : (n k : ℕ) (r : ReadText) (x : Head Run D) (rs : List ReactorTurn) (y : Head Run D) (qs more : List Piece) → Goes (ReactorStep reactor (desk_out f o) n) k x rs y → So r x.outside
      → gather (λ t. t.pieces) rs ≡ qs ++ more → Ends (read_all r qs)
  turns n k r x [] y [] more g h e = ends_of r x.outside h
  turns n k r x [] y (q ∷ qs) more g h e = absurd (let c : [] ≡ q ∷ (qs ++ more) = e in cc)
  turns n k r x (t ∷ rs) y qs more g h e =
      let step = g.1 in
      elim (served k t.end r step.0 t.pieces g.0 (gather (λ (z : ReactorTurn). z.pieces) rs) qs more step.2 (ordered n k r x t step.0 step.1 h) e) [
        | inl w ↦ w
        | inr w ↦
            let At : ReadText → Type 0 = λ z. Ends z in
            let From : List Piece → Type 0 = λ z. Ends (read_all r z) in
            subst From (sym w.cut) (subst At (sym (all_read r t.pieces w.later)) (turns n (k + 1) (read_all r t.pieces) g.0 rs y w.later more g.2 w.so w.left))
      ]

  pub begins : (x : D) → x.name.now ≡ name → f.told x.files.now name ≡ Some bytes → x.kept.now.at ≡ 0 → So nothing_read x
  begins x n t at = record { name_is = n; told = t; front = ap (λ i. take i bytes) (sym at); whole = λ e. let g : false ≡ true = e in cc }

-- what was read in some turns is what was read of their pieces
pub read_in : (r : ReadText) (ts : List MotionTurn) → read_by r ts ≡ read_all r (gather (λ t. t.pieces) ts)
read_in r [] = refl
read_in r (t ∷ ts) = read_in (read_all r t.pieces) ts ∙ sym (both r t.pieces (gather (λ (x : MotionTurn). x.pieces) ts))
  where
    both : (r : ReadText) (ps qs : List Piece) → read_all r (ps ++ qs) ≡ read_all (read_all r ps) qs
    both r [] qs = refl
    both r (p ∷ ps) qs = both (read_on r p) ps qs
