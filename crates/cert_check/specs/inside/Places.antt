-- The listed states as the program keeps them: a place for each number, up to the greatest that is listed.
--     places_from n places           what these places list, the first of which has the number n
--     states_at places               the listed states
--     place_within places most n     the state n is listed within this distance
use Rattle.std.specs.Prelude.{ℕ, ◌+◌, List, [], ◌∷◌, Bool, true, false, ◌==◌, nat_le, map, slice_get, Option, Some, None, if◌then◌else◌}
use Rattle.std.specs.List.{range_with_len}
use Rattle.certificate.specs.CertTexts.{Listed}
use Rattle.certificate_laws.specs.inside.OnLines.{state_on_line}
use Rattle.cert_check.specs.declared.places.Place.{Place}

-- the listed states by places from the number n on, with the lines that list them; a place on line 0 is empty
abbrev pub places_from : ℕ → List Place → List (ℕ × Listed)
places_from n [] = []
places_from n (p ∷ ps) =
    if p.line == 0 then places_from (n + 1) ps
    else ((p.line, record { state = n; distance = p.distance }) ∷ places_from (n + 1) ps)

-- the last of these places isn't empty
abbrev pub ends_listed : List Place → Bool
ends_listed [] = true
ends_listed (p ∷ []) = if p.line == 0 then false else true
ends_listed (p ∷ q ∷ ps) = ends_listed (q ∷ ps)

-- the states from s on, n of them, with one distance
abbrev pub run_states : ℕ → ℕ → ℕ → List Listed
run_states s n d = map (λ state. record { state = state; distance = d }) (range_with_len s n)

-- each of these states on this line
abbrev pub on_line : ℕ → List Listed → List (ℕ × Listed)
on_line n states = map (λ s. (n, s)) states

-- the listed states of these places, the first of which has the number n
abbrev pub states_from : ℕ → List Place → List Listed
states_from n places = map state_on_line (places_from n places)

-- the listed states of all places
abbrev pub states_at : List Place → List Listed
states_at places = states_from 0 places

-- this place isn't empty, and its distance is at most so much
abbrev pub is_near_place : ℕ → Option Place → Bool
is_near_place most None = false
is_near_place most (Some p) = if p.line == 0 then false else (nat_le p.distance most)

-- the state is listed within this distance, by its place
abbrev pub place_within : List Place → ℕ → ℕ → Bool
place_within places most n = is_near_place most (slice_get places n)
