use Rattle.std.proofs.Common.{◌≡◌, ◌<◌, ◌^◌, length, take, arith, ◌∙◌, sym, ap, get_or, bit_and}
use Rattle.std.proofs.lemmas.List.{length-take-le}
use Rattle.vlq_code.specs.Spelling.{Spells, groups_after, first_group, number_of, byte_count}
use Rattle.vlq_code.proofs.Lengths.{same_bytes, groups_below, takes_all, takes_count, top_group, first_group_at}
use Rattle.std.proofs.lemmas.Nat.{and_mask}
use Rattle.vlq_code.proofs.take.Goals as goal
use Rattle.vlq_code.proofs.take.Goals.{else-len-eq5-via-then-len-eq5+else-groups, else-len-eq5-via-else-len-eq5}

pub returns-then-spelled_length-len-clause-found : goal.returns-then-spelled_length-len-clause-found
returns-then-spelled_length-len-clause-found c =
    let bytes = c.args.bytes.now in
    let len = c.in_ok-len.len in
    let n = c.number-n.result in
    let found = c.in_ok-len.ensures.found in
    let t = take len bytes in
    let size : length (take len bytes) ≡ len = length-take-le len bytes found.0 in
    let first : bit_and (get_or bytes 0 0) 127 ≡ first_group (take len bytes) = and_mask (get_or bytes 0 0) 7 ∙ sym (first_group_at bytes len found.1) in
    let groups = c.groups_of-groups.ensures in
    let r = takes_count n (omega arith) in
    let count : byte_count n ≡ len = sym c.spelled_length.ensures ∙ c.if-spelled_length-len.true in
    let small : len ≡ 5 → groups_after 0 (take len bytes) < 2 ^ 32 =
    λ five. elim c.else-len-eq5.branch [
      | else-len-eq5-via-then-len-eq5+else-groups w ↦ rw groups at w.if-groups.false
      | else-len-eq5-via-else-len-eq5 w ↦ absurd (w.if-len-eq5.false five)
    ] in
    let value : n ≡ number_of (length (take len bytes)) (first_group (take len bytes)) (groups_after 0 (take len bytes)) = rw (size, sym first, sym groups) c.number-n.ensures in
    let wholly : Spells (take len bytes) n =
    record {
      joined = found.3;
      number = value;
      within = rw size found.2;
      shortest = λ k low h. r.least k low (omega (arith, h, size, count));
      top = λ five. top_group t five (small (sym size ∙ five));
    } in
    (found.0, wholly)

pub returns-then-groups-clause-none : goal.returns-then-groups-clause-none
returns-then-groups-clause-none c n j s =
    let bytes = c.args.bytes.now in
    let len = c.in_ok-len.len in
    let found = c.in_ok-len.ensures.found in
    let same : take j bytes ≡ take len bytes = same_bytes bytes j len n s found.3 in
    let size : length (take len bytes) ≡ len = length-take-le len bytes found.0 in
    let five : length (take j bytes) ≡ 5 = ap length same ∙ size ∙ c.if-len-eq5.true in
    let small : groups_after 0 (take j bytes) < 2 ^ 32 = groups_below (take j bytes) five (s.top five) in
    let value : c.groups_of-groups.result ≡ groups_after 0 (take j bytes) =
    c.groups_of-groups.ensures ∙ sym (ap (groups_after 0) same) in
    omega (arith, small, value, c.if-groups.true)

pub returns-else-spelled_length-len-clause-none : goal.returns-else-spelled_length-len-clause-none
returns-else-spelled_length-len-clause-none c n j s =
    let bytes = c.args.bytes.now in
    let len = c.in_ok-len.len in
    let found = c.in_ok-len.ensures.found in
    let same : take j bytes ≡ take len bytes = same_bytes bytes j len n s found.3 in
    let size : length (take len bytes) ≡ len = length-take-le len bytes found.0 in
    let first : bit_and (get_or bytes 0 0) 127 ≡ first_group (take len bytes) = and_mask (get_or bytes 0 0) 7 ∙ sym (first_group_at bytes len found.1) in
    let of_bytes : n ≡ number_of (length (take len bytes)) (first_group (take len bytes)) (groups_after 0 (take len bytes)) =
    s.number ∙ ap (λ t. number_of (length t) (first_group t) (groups_after 0 t)) same in
    let value : n ≡ c.number-n.result = cc (of_bytes, size, first, c.groups_of-groups.ensures, c.number-n.ensures) in
    let r = takes_count n (omega (arith, value)) in
    let count : c.spelled_length.result ≡ byte_count n = c.spelled_length.ensures ∙ ap byte_count (sym value) in
    let all = takes_all (take j bytes) n (byte_count n) s r.fits r.least r.some r.most in
    c.if-spelled_length-len.false (count ∙ all ∙ ap length same ∙ size)
