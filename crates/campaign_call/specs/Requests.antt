-- The words of a campaign, after the program's name.
use Rattle.std.specs.Prelude.{◌≤◌, ℕ, ◌&&◌, nat_le, List, [], ◌∷◌, Option, Some, None, option_and_then, option_map, if◌then◌else◌, codes}
use Rattle.std.specs.Str.{bytes_eq}
use Rattle.command_line.specs.Commands.{number_of}
use Rattle.campaign_draws.specs.declared.rates.Rates.{Rates}
use Rattle.campaign_call.specs.declared.request.Request.{Request}
use Rattle.campaign_call.specs.declared.request.Request.TheVariants.{Campaign, Mission}

-- the number of a text, where it is from low to high
unfoldable pub number_within : ℕ → ℕ → List ℕ → Option ℕ
number_within low high text =
    option_and_then (λ n. if nat_le low n && nat_le n high then Some n else None) (number_of text)

-- a rate, in a million channels and cycles
abbrev pub rate_of : List ℕ → Option ℕ
rate_of text = number_within 0 1000000 text

-- four rates
unfoldable pub rates_of : List ℕ → List ℕ → List ℕ → List ℕ → Option Rates
rates_of crash damage lose forge =
    option_and_then (λ a. option_and_then (λ b. option_and_then (λ c.
    option_map (λ d. record { crash = a; damage = b; lose = c; forge = d })
    (rate_of forge)) (rate_of lose)) (rate_of damage)) (rate_of crash)

-- a campaign: a number below two to the 64th, how many runs, 1 to 10,000, and rates
unfoldable pub campaign_of : List ℕ → List ℕ → Option Rates → Option Request
campaign_of state runs rates =
    option_and_then (λ x. option_and_then (λ n. option_map (λ r. Campaign x n r) rates) (number_within 1 10000 runs))
    (number_of state)

-- the mission of the run that a number draws
unfoldable pub mission_of_run : List ℕ → Option Rates → Option Request
mission_of_run state rates = option_and_then (λ x. option_map (λ r. Mission x r) rates) (number_of state)

-- two words and the rates: the first is `mission`, or a number
unfoldable pub request_with : List ℕ → List ℕ → Option Rates → Option Request
request_with first second rates =
    if bytes_eq first (codes "mission") then mission_of_run second rates else campaign_of first second rates

-- six words are a request, and no other list is
abbrev pub request_of : List (List ℕ) → Option Request
request_of (first ∷ second ∷ crash ∷ damage ∷ lose ∷ forge ∷ []) =
    request_with first second (rates_of crash damage lose forge)
request_of _ = None

-- a campaign has no more than 10,000 runs
abbrev pub IsWithin : Request → Type 0
IsWithin (Campaign x n rates) = n ≤ 10000
IsWithin (Mission x rates) = Unit {0}
