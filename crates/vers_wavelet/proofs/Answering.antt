-- What queries that go level by level answer.
use Rattle.vers_wavelet.proofs.Names.{◌≡◌, ℕ, ◌+◌, ◌-◌, ◌*◌, ◌%◌, ◌^◌, ◌&&◌, ◌<◌, ◌≤◌, Bool, false, leb, List, [], ◌∷◌, length, get_or, refl, sym, ap, ◌∙◌, arith, Option, Some, None, option_map, add-zero, slice_get, IfSome, if◌then◌else◌, le-leb, lt-leb, slice_get-get_or, bit_value, value, values, next, final_position, digit, AreLevels, HasClimbed, occurrences}
use Rattle.std.proofs.lemmas.Iterator.Adapters.{option_map_id}
use Rattle.vers_wavelet.proofs.Values.{value_is, value_none, next-up, final_is, final_none}
use Rattle.vers_wavelet.proofs.Elements.{never}
use Rattle.vers_wavelet.proofs.Steps.{rise_none, rise_all, rise_below, final_within}
use Rattle.vers_wavelet.proofs.Lists.{length-values, get_or-values, count_is, found_or_none}

-- an answer of symbols that a word holds, and of those that it doesn't
pub of_words : {X : Type 0} (k : ℕ) (o p : Option X) → k ≤ 64 → o ≡ p → o ≡ (if leb k 64 then p else None)
of_words k o p h e = e ∙ sym (ap (λ t. if t then p else None) (le-leb k 64 h))

pub of_wide : {X : Type 0} (k : ℕ) (p : Option X) → 64 < k → None ≡ (if leb k 64 then p else None)
of_wide k p h = sym (ap (λ t. if t then p else None) (lt-leb k 64 h))

-- ---- symbols at positions

pub get_begins : (ls : List (List Bool)) (n p : ℕ) → p < n → Some (0 + value ls p) ≡ slice_get (values ls n) p
get_begins ls n p h =
    let e : 0 + value ls p ≡ get_or (values ls n) p 0 = omega (arith, get_or-values ls n p 0 h) in
    ap Some e ∙ sym (slice_get-get_or (values ls n) p 0 (omega (arith, h, length-values ls n)))

pub get_goes : (v : List Bool) (ls : List (List Bool)) (p i number more : ℕ) (b : Bool) (o : Option ℕ) → o ≡ Some number → length ls ≡ i → get_or v p false ≡ b
    → more ≡ number + bit_value b * 2 ^ i → Some (more + value ls (next b v p)) ≡ option_map (λ y. y + value (v ∷ ls) p) o
get_goes v ls p i number more b o is long bit e =
    let whole : more + value ls (next b v p) ≡ number + value (v ∷ ls) p = omega (arith, e, rw long at (value_is v ls p b bit)) in rw (is, whole)

pub get_ends : (o : Option ℕ) (p : ℕ) → o ≡ option_map (λ y. y + value [] p) o
get_ends o p = simp (value_none, add-zero, option_map_id)

-- an answer where two tests pass
pub if_both : {X : Type 0} (a b c d : ℕ) (o : Option X) → a ≤ b → c ≤ d → o ≡ (if leb a b && leb c d then o else None)
if_both a b c d o h l = sym (ap (λ t. if t && leb c d then o else None) (le-leb a b h) ∙ ap (λ t. if t then o else None) (le-leb c d l))

-- ---- occurrences counted

pub rank_begins : {ls : List (List Bool)} {n : ℕ} → AreLevels ls n → (s end : ℕ) → length ls ≤ 64 → end ≤ n
    → Some (final_position ls s end - final_position ls s (end - end)) ≡ (if leb (length ls) 64 && leb end (length (values ls n)) then Some (length (occurrences (values ls n) 0 end (s % 2 ^ length ls))) else None)
rank_begins {ls} {n} levels s end few within =
    let none : end - end ≡ 0 = omega arith in
    ap (λ i. Some (final_position ls s end - final_position ls s i)) none ∙ ap Some (count_is levels s 0 end (final_position ls s 0) (final_position ls s end) (omega arith) within (omega arith))
    ∙ if_both (length ls) 64 end (length (values ls n)) _ few (omega (arith, length-values ls n))

pub rank_goes : (v : List Bool) (ls : List (List Bool)) (s end c i start to : ℕ) (b : Bool) (o : Option ℕ) → o ≡ Some c → length ls ≡ i → b ≡ digit s i
    → start ≡ next b v (end - c) → to ≡ next b v end
    → Some (final_position ls s to - final_position ls s (to - (to - start))) ≡ option_map (λ c. final_position (v ∷ ls) s end - final_position (v ∷ ls) s (end - c)) o
rank_goes v ls s end c i start to b o is long bit from last =
    let up : start ≤ to = omega (arith, from, last, next-up b v (end - c) end (omega arith)) in
    let back : to - (to - start) ≡ start = omega arith in
    rw (is, back, from, last, final_is v ls s end, final_is v ls s (end - c), long, ← bit)

pub rank_ends : (o : Option ℕ) (n s end : ℕ) → IfSome o (λ c. (c ≤ end) × (end ≤ n) × (0 ≤ 64)) → o ≡ option_map (λ c. final_position [] s end - final_position [] s (end - c)) o
rank_ends None n s end kept = refl
rank_ends (Some c) n s end kept = grind (arith, final_none)

-- ---- occurrences found

pub select_goes : (v : List Bool) (ls : List (List Bool)) (s p i to : ℕ) (b : Bool) (o : Option ℕ) → o ≡ Some p → length ls ≡ i → b ≡ digit s i → to ≡ next b v p
    → Some (final_position ls s to) ≡ option_map (λ p. final_position (v ∷ ls) s p) o
select_goes v ls s p i to b o is long bit at = rw (is, at, bit, ← long, final_is v ls s p)

pub select_ends : (o : Option ℕ) (s : ℕ) → o ≡ option_map (λ p. final_position [] s p) o
select_ends o s = simp (final_none, option_map_id)

pub turn_known : {ls : List (List Bool)} {n : ℕ} → AreLevels ls n → (s rank first : ℕ) (o : Option ℕ) → o ≡ Some first → o ≡ Some (final_position ls s 0) → first + rank < n
    → HasClimbed ls n s (final_position ls s 0 + rank) (length ls) (Some (first + rank))
turn_known {ls} {n} levels s rank first o is begun inside =
    let e : first ≡ final_position ls s 0 = cc in
    rw e (record { reached = rise_none ls n s (final_position ls s 0 + rank) _ refl (omega (arith, e)); some = λ h. refl })

pub turn_past : {ls : List (List Bool)} {n : ℕ} → AreLevels ls n → (s rank first : ℕ) (o : Option ℕ) → o ≡ Some first → o ≡ Some (final_position ls s 0) → n ≤ first + rank
    → HasClimbed ls n s (final_position ls s 0 + rank) (length ls) None
turn_past {ls} {n} levels s rank first o is begun past =
    let e : first ≡ final_position ls s 0 = cc in
    record { reached = tt; some = λ h. absurd (omega (arith, e, h, final_within levels s)) }

pub select_found : {ls : List (List Bool)} {n : ℕ} → AreLevels ls n → (s rank : ℕ) (o : Option ℕ) → HasClimbed ls n s (final_position ls s 0 + rank) 0 o
    → o ≡ slice_get (occurrences (values ls n) 0 n (s % 2 ^ length ls)) rank
select_found {ls} levels s rank None seeks = found_or_none levels s 0 rank (final_position ls s 0) None (omega arith) refl tt tt tt (never, seeks.some)
select_found {ls} levels s rank (Some p) seeks =
    let all = rise_all refl seeks.reached in
    found_or_none levels s 0 rank (final_position ls s 0) (Some p) (omega arith) refl seeks.reached.within all.0 all.1 (λ t. rise_below levels refl seeks.reached, λ h. refl)

pub select_answers : {ls : List (List Bool)} {n : ℕ} → AreLevels ls n → length ls ≤ 64 → (rank s r t : ℕ) (o : Option ℕ) → HasClimbed ls n t (final_position ls t 0 + r) 0 o → r ≡ rank → t ≡ s
    → o ≡ (if leb (length ls) 64 then slice_get (occurrences (values ls n) 0 n (s % 2 ^ length ls)) rank else None)
select_answers {ls} {n} levels few rank s r t o seeks same_rank same_symbol = grind (arith, of_words, select_found)
