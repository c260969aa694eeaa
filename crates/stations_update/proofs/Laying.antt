-- Stations laid one after another into a memory, from a place on.
use Prim.Native.Nat.{ℕ, suc, ◌+◌, ◌-◌, ◌*◌, ◌≤◌, ◌<◌, min}
use native.Mathlib.Numerals.{add-one}
use native.Mathlib.Omega.{arith}
use mathlib.Core.List.{List, [], ◌∷◌, ◌++◌, append_assoc}
use mathlib.Core.Path.{◌≡◌, ap, ap₂, sym, ◌∙◌}
use lib.ListN.{length, take, drop, set, length-append, length-drop}
use lib.Seq.{length-take-le, take-suc, take_at, drop-append-add, drop-drop, sets-eq}
use Rattle.octets.specs.Octets.{at, over, placed}
use Rattle.octets.proofs.Placing.{is_placed, placed_more}
use Rattle.stations.specs.declared.Station.{Station}
use Rattle.stations.specs.Table.{station_limit, stations_from, table_in, station_words, words_of, memory_of, station_at, new_station}
use Rattle.stations.proofs.Memory.{length_stations, length_table, length_words, words_append, words_of_stations, take_stations, drop_stations}

-- the first words of a table are its first stations'
front_words : (memory : List ℕ) (place : ℕ) → place ≤ length (table_in memory) → 4 * length (table_in memory) + 1 ≤ length memory
    → words_of (take place (table_in memory)) ≡ take (4 * place) (drop 1 memory)
unfolding table_in
front_words memory place h room =
    let count = min (at memory 0) station_limit in
    let words = drop 1 memory in
    let held : length (table_in memory) ≡ count = length_table memory in
    let fits : 4 * place ≤ length words = simp length-drop (omega arith) in
    let long : length (words_of (stations_from place words)) ≡ 4 * place =
    length_words (stations_from place words) ∙ ap (λ (n : ℕ). 4 * n) (length_stations place words) in
    ap words_of (take_stations place count words (omega arith))
    ∙ sym (ap (take (4 * place)) (sym (words_of_stations place words fits))
    ∙ take_at (words_of (stations_from place words)) (drop (4 * place) words) (4 * place) long)

-- one station more
pub grow : (memory : List ℕ) (place k : ℕ) (next : List Station) → k < length next → 4 * (place + k + 1) + 1 ≤ length memory
    → placed (placed memory (4 * place + 1) (words_of (take k next))) (4 * (place + k) + 1) (station_words (station_at next k))
    ≡ placed memory (4 * place + 1) (words_of (take (suc k) next))
unfolding words_of
grow memory place k next h room =
    let so_far = words_of (take k next) in
    let long : length so_far ≡ 4 * k = length_words (take k next) ∙ ap (λ (n : ℕ). 4 * n) (length-take-le k next (omega arith)) in
    let more : words_of (take (suc k) next) ≡ so_far ++ station_words (station_at next k) =
    rw (take-suc next k (new_station 0) h) (words_append (take k next) (station_at next k ∷ [])) in
    placed_more memory (4 * place + 1) so_far (station_words (station_at next k)) (4 * (place + k) + 1) (omega arith) (omega arith)
    ∙ ap (placed memory (4 * place + 1)) (sym more)

-- what stands behind the stations laid so far is as it was
pub unread : (memory : List ℕ) (place k j : ℕ) (next : List Station) → k ≤ length next → place + k ≤ j → 4 * (place + k) + 1 ≤ length memory
    → drop (4 * j + 1) (placed memory (4 * place + 1) (words_of (take k next))) ≡ drop (4 * j + 1) memory
unread memory place k j next h behind room =
    let so_far = words_of (take k next) in
    let long : length so_far ≡ 4 * k = length_words (take k next) ∙ ap (λ (n : ℕ). 4 * n) (length-take-le k next h) in
    let start = 4 * place + 1 in
    let front = take start memory ++ so_far in
    let end = start + length so_far in
    let more = 4 * j + 1 - end in
    let ends : length front ≡ end = length-append (take start memory) so_far ∙ ap (λ (n : ℕ). n + length so_far) (length-take-le start memory (omega arith)) in
    let all : 4 * j + 1 ≡ length front + more = omega arith in
    let all_end : 4 * j + 1 ≡ end + more = omega arith in
    ap (drop (4 * j + 1)) (is_placed memory start so_far (omega arith))
    ∙ ap (λ (n : ℕ). drop n (front ++ drop end memory)) all
    ∙ drop-append-add front (drop end memory) more
    ∙ drop-drop more end memory ∙ ap (λ (n : ℕ). drop n memory) (sym all_end)

-- a station's own words laid over a table's are the same as those of all stations from there on
pub replaced : (memory : List ℕ) (place : ℕ) (station : Station) → place < length (table_in memory) → 4 * length (table_in memory) + 1 ≤ length memory
    → placed memory (4 * place + 1) (station_words station)
    ≡ placed memory (4 * place + 1) (words_of (station ∷ drop (place + 1) (table_in memory)))
unfolding words_of table_in
replaced memory place station h room =
    let count = min (at memory 0) station_limit in
    let held : length (table_in memory) ≡ count = length_table memory in
    let left = count - (place + 1) in
    let start = 4 * place + 1 in
    let behind = drop (4 * (place + 1)) (drop 1 memory) in
    let own = station_words station in
    let later = words_of (drop (place + 1) (table_in memory)) in
    let shown : later ≡ words_of (stations_from left behind) = ap words_of (drop_stations (place + 1) count (drop 1 memory) (omega arith)) in
    let fits : 4 * left ≤ length behind = simp length-drop (omega arith) in
    let long : length later ≡ 4 * left = ap length shown ∙ length_words (stations_from left behind) ∙ ap (λ (n : ℕ). 4 * n) (length_stations left behind) in
    let same : behind ≡ later ++ drop (4 * left) behind =
    sym (words_of_stations left behind fits) ∙ ap (λ (words : List ℕ). words ++ drop (4 * left) behind) (sym shown) in
    let next : start + 4 ≡ 1 + 4 * (place + 1) = omega arith in
    let last : start + length (own ++ later) ≡ 1 + 4 * (place + 1) + 4 * left = omega (arith, length-append own later) in
    let front = take start memory in
    let here : drop (start + 4) memory ≡ behind = rw next (sym (drop-drop (4 * (place + 1)) 1 memory)) in
    let end : drop (start + length (own ++ later)) memory ≡ drop (4 * left) behind =
    rw last (sym (drop-drop (4 * left) (1 + 4 * (place + 1)) memory) ∙ ap (drop (4 * left)) (sym (drop-drop (4 * (place + 1)) 1 memory))) in
    is_placed memory start own (omega arith)
    ∙ ap (λ (words : List ℕ). front ++ own ++ words) (here ∙ same)
    ∙ sym (append_assoc (front ++ own) later (drop (4 * left) behind))
    ∙ ap (λ (words : List ℕ). words ++ drop (4 * left) behind) (append_assoc front own later)
    ∙ ap (λ (words : List ℕ). front ++ (own ++ later) ++ words) (sym end)
    ∙ sym (is_placed memory start (own ++ later) (omega arith))

-- the stations before a place, those laid from there on, and how many they are: a table
pub laid : (memory : List ℕ) (place held : ℕ) (next : List Station) → place ≤ length (table_in memory) → 4 * length (table_in memory) + 1 ≤ length memory
    → held ≡ place + length next → 4 * held + 1 ≤ length memory
    → set (placed memory (4 * place + 1) (words_of next)) 0 held ≡ memory_of (take place (table_in memory) ++ next) memory
unfolding memory_of over
laid [] place held next h room e fits = absurd (omega arith)
laid (first ∷ words) place held next h room e fits =
    let memory = first ∷ words in
    let before = take place (table_in memory) in
    let laid-words = words_of next in
    let count : length (before ++ next) ≡ held = length-append before next ∙ omega (arith, length-take-le place (table_in memory) h) in
    let long : length laid-words ≡ 4 * length next = length_words next in
    let all : words_of (before ++ next) ≡ take (4 * place) words ++ laid-words =
    words_append before next ∙ ap (λ (front : List ℕ). front ++ laid-words) (front_words memory place h room) in
    let all-long : length (words_of (before ++ next)) ≡ 4 * place + length laid-words =
    length_words (before ++ next) ∙ omega arith in
    let at_one : take (4 * place + 1) memory ≡ first ∷ take (4 * place) words = rw (add-one (4 * place)) in
    let behind : drop (4 * place + 1 + length laid-words) memory ≡ drop (4 * place + length laid-words) words =
    let next : 4 * place + 1 + length laid-words ≡ suc (4 * place + length laid-words) = omega arith in rw next in
    ap (λ (l : List ℕ). set l 0 held) (is_placed memory (4 * place + 1) laid-words (omega arith)
    ∙ ap₂ (λ (front back : List ℕ). front ++ laid-words ++ back) at_one behind)
    ∙ ap₂ (λ (n : ℕ) (l : List ℕ). n ∷ l) (sym count)
    (ap₂ (λ (l : List ℕ) (n : ℕ). l ++ drop n words) (sym all) (sym all-long))

-- four words stored one after another
pub four_stored : (memory : List ℕ) (first a b c d last : ℕ) → first + 4 ≤ length memory → last ≡ d
    → set (set (set (set memory first a) (first + 1) b) (first + 2) c) (first + 3) last ≡ placed memory first (a ∷ b ∷ c ∷ d ∷ [])
four_stored memory first a b c d last h e =
    let one : first + 1 ≡ suc first = omega arith in
    let two : first + 2 ≡ suc (suc first) = omega arith in
    let three : first + 3 ≡ suc (suc (suc first)) = omega arith in
    rw (e, one, two, three) (sets-eq (a ∷ b ∷ c ∷ d ∷ []) memory first h ∙ sym (is_placed memory first (a ∷ b ∷ c ∷ d ∷ []) h))
