-- A frame is read as it is spelled.
use Rattle.std.proofs.Common.{◌≡◌, ℕ, zero, suc, ◌==◌, Bool, true, ◌&&◌, cond, ◌≤◌, List, [], ◌∷◌, ◌++◌, length, Some, None, refl, sym, ap, subst, ◌∙◌, append_assoc, arith}
use Rattle.std.specs.Prelude.{nat_le, nat_lt}
use Rattle.std.specs.Int.{w32}
use Rattle.std.proofs.lemmas.Bool.{leb-true, eqb-true, lt-ltb}
use Rattle.std.proofs.lemmas.List.{append-nil, nil_from_length}
use Rattle.guards_model.specs.Channels.{Channel}
use Rattle.guards_model.specs.Frames.{ItemValue, CopyValue, ControlWordValue, BodyValue, request_body, exchange_body, vote_body, sweep_body, final_body, switch_body, FrameValue, u32, fits_u32, is_channel, between, counted, optional, absent_or, item_bytes, copy_bytes, control_bytes, copies_in_range, is_distinct, each_next, numbers_of, control_in_range, kind, body_bytes, body_in_range, spelling, in_range, Spells}
use Rattle.guards_model.specs.Fields.{Reader, ◌>>=◌, mapped, checked, pair, byte_at, number_at, counted_by, optional_at, word_at, channel_at, set_at, control_at, items_at, swept_copies_at, final_copies_at, request_at, exchange_at, vote_at, sweep_at, final_at, switch_at, body_at, frame_at, frame_in}
use Rattle.guards_model.proofs.Codecs.{both, and_true, IsBytes, IsBytes-after, bind_some, if_some, some_is, IsCodec, pair_codec, optional_codec, byte_codec}
use Rattle.guards_model.proofs.FieldCodecs.{tested_byte, u32_codec, words_codec, channel_codec, set_codec, items_codec, swept_copies_codec, final_copies_codec, control_codec}

-- ---- bodies

-- what a mapped reader read, and what it reads again
made : {A B : Type 0} (spell : A → List ℕ) (fits : A → Bool) (read : Reader A) → IsCodec spell fits read →
    (f : A → B) (bytes : List ℕ) (b : B) (rest : List ℕ) → IsBytes bytes
    → mapped f read bytes ≡ Some (b, rest) → (a : A) × (f a ≡ b) × (fits a ≡ true) × (bytes ≡ spell a ++ rest)
made {A} {B} spell fits read codec f bytes b rest ok e =
    let a = bind_some (read bytes) (λ x. Some (f x.0, x.1)) (b, rest) e in
    let s = codec.sound bytes a.0.0 a.0.1 ok a.1 in
    let same = some_is (f a.0.0, a.0.1) (b, rest) a.2 in
    (a.0.0, ap (λ (p : B × List ℕ). p.0) same, s.0, s.1 ∙ ap (λ (p : B × List ℕ). spell a.0.0 ++ p.1) same)

made_again : {A B : Type 0} (spell : A → List ℕ) (fits : A → Bool) (read : Reader A) → IsCodec spell fits read →
    (f : A → B) (a : A) (rest : List ℕ) → fits a ≡ true
    → mapped f read (spell a ++ rest) ≡ Some (f a, rest)
made_again {A} spell fits read codec f a rest h =
    ap (λ r. r >>= λ (x : A × List ℕ). Some (f x.0, x.1)) (codec.again a rest h)

have_codec : IsCodec (optional u32) (absent_or fits_u32) (optional_at (number_at w32))
have_codec = optional_codec u32 fits_u32 (number_at w32) u32_codec

round_codec : IsCodec (λ b. b ∷ []) (between 1 3) (checked (between 1 3) byte_at)
round_codec = tested_byte (between 1 3)
    (λ b h. lt-ltb b 256 (omega (arith, leb-true b 3 (both (nat_le 1 b) (nat_le b 3) h).1)))

round_low : (round : ℕ) → between 1 3 round ≡ true → 1 ≤ round
round_low round h = leb-true 1 round (both (nat_le 1 round) (nat_le round 3) h).0

sweep_codec : IsCodec (λ (p : Channel × (ℕ × List CopyValue)). (p.0 ∷ []) ++ (u32 p.1.0 ++ counted copy_bytes p.1.1))
    (λ p. is_channel p.0 && (fits_u32 p.1.0 && (copies_in_range 1 64 p.1.1 && is_distinct (numbers_of p.1.1))))
    (pair channel_at (pair (number_at w32) swept_copies_at))
sweep_codec =
    pair_codec (λ q. q ∷ []) is_channel channel_at _ _ (pair (number_at w32) swept_copies_at) channel_codec
    (pair_codec u32 fits_u32 (number_at w32) _ _ swept_copies_at u32_codec swept_copies_codec)

final_codec : (version : ℕ) →
    IsCodec (λ (p : Channel × (ℕ × (List CopyValue × ControlWordValue))). (p.0 ∷ [])
    ++ (u32 p.1.0 ++ (counted copy_bytes p.1.1.0 ++ control_bytes version p.1.1.1)))
    (λ p. is_channel p.0 && (fits_u32 p.1.0
    && ((copies_in_range 0 64 p.1.1.0 && each_next nat_lt (numbers_of p.1.1.0))
    && control_in_range version p.1.1.1)))
    (pair channel_at (pair (number_at w32) (pair final_copies_at (control_at version))))
final_codec version =
    pair_codec (λ q. q ∷ []) is_channel channel_at _ _
    (pair (number_at w32) (pair final_copies_at (control_at version))) channel_codec
    (pair_codec u32 fits_u32 (number_at w32) _ _ (pair final_copies_at (control_at version)) u32_codec
    (pair_codec _ _ final_copies_at _ _ (control_at version) final_copies_codec (control_codec version)))

pub record BodyIs (version k sender : ℕ) (bytes : List ℕ) (b : BodyValue) (rest : List ℕ) : Type 0 where
  pub kind_is : kind b ≡ k
  pub ranges : body_in_range version sender b ≡ true
  pub spelled : bytes ≡ body_bytes version b ++ rest

exchange_sound : (version sender : ℕ) (bytes : List ℕ) (b : BodyValue) (rest : List ℕ) → IsBytes bytes →
    exchange_at sender bytes ≡ Some (b, rest) → BodyIs version 2 sender bytes b rest
unfolding exchange_at
exchange_sound version sender bytes b rest ok e =
    let r = bind_some (checked (between 1 3) byte_at bytes)
    (λ round. items_at sender round.0 round.1 >>= λ items.
    Some (exchange_body (record { round = round.0; items = items.0 }), items.1)) (b, rest) e in
    let i = bind_some (items_at sender r.0.0 r.0.1)
    (λ items. Some (exchange_body (record { round = r.0.0; items = items.0 }), items.1)) (b, rest) r.2 in
    let s = round_codec.sound bytes r.0.0 r.0.1 ok r.1 in
    let t = (items_codec sender r.0.0 (round_low r.0.0 s.0)).sound r.0.1 i.0.0 i.0.1
    (IsBytes-after (r.0.0 ∷ []) r.0.1 (subst IsBytes s.1 ok)) i.1 in
    subst (λ (p : BodyValue × List ℕ). BodyIs version 2 sender bytes p.0 p.1)
    (some_is (exchange_body (record { round = r.0.0; items = i.0.0 }), i.0.1) (b, rest) i.2)
    (record {
      kind_is = refl;
      ranges = and_true (between 1 3 r.0.0) _ s.0 t.0;
      spelled = s.1 ∙ ap (λ x. r.0.0 ∷ x) t.1;
    })

body_sound : (version k sender : ℕ) (bytes : List ℕ) (b : BodyValue) (rest : List ℕ) → IsBytes bytes →
    body_at version k sender bytes ≡ Some (b, rest) → BodyIs version k sender bytes b rest
unfolding body_at request_at vote_at sweep_at final_at switch_at u32
body_sound version zero sender bytes b rest ok e = absurd cc
body_sound version (suc zero) sender bytes b rest ok e =
    let m = made (optional u32) (absent_or fits_u32) (optional_at (number_at w32)) have_codec request_body bytes b rest
    ok e in
    subst (λ x. BodyIs version 1 sender bytes x rest) m.1 (record { kind_is = refl; ranges = m.2; spelled = m.3 })
body_sound version (suc (suc zero)) sender bytes b rest ok e = exchange_sound version sender bytes b rest ok e
body_sound version (suc (suc (suc zero))) sender bytes b rest ok e =
    let m = made _ _ (counted_by (between 1 8) word_at) (words_codec 1 8) vote_body bytes b rest ok e in
    subst (λ x. BodyIs version 3 sender bytes x rest) m.1 (record { kind_is = refl; ranges = m.2; spelled = m.3 })
body_sound version (suc (suc (suc (suc zero)))) sender bytes b rest ok e =
    let m = made _ _ (pair channel_at (pair (number_at w32) swept_copies_at)) sweep_codec
    (λ x. sweep_body (record { target = x.0; start = x.1.0; copies = x.1.1 })) bytes b rest ok e in
    subst (λ x. BodyIs version 4 sender bytes x rest) m.1 (record { kind_is = refl; ranges = m.2; spelled = m.3 })
body_sound version (suc (suc (suc (suc (suc zero))))) sender bytes b rest ok e =
    let m = made _ _ (pair channel_at (pair (number_at w32) (pair final_copies_at (control_at version))))
    (final_codec version) (λ x.
    final_body (record { target = x.0; start = x.1.0; copies = x.1.1.0; control = x.1.1.1 })) bytes b rest ok e in
    subst (λ x. BodyIs version 5 sender bytes x rest) m.1 (record { kind_is = refl; ranges = m.2; spelled = m.3 })
body_sound version (suc (suc (suc (suc (suc (suc zero)))))) sender bytes b rest ok e =
    let m = made _ _ set_at set_codec switch_body bytes b rest ok e in
    subst (λ x. BodyIs version 6 sender bytes x rest) m.1 (record { kind_is = refl; ranges = m.2; spelled = m.3 })
body_sound version (suc (suc (suc (suc (suc (suc (suc k))))))) sender bytes b rest ok e = absurd cc

body_again : (version sender : ℕ) (b : BodyValue) (rest : List ℕ) → body_in_range version sender b ≡ true →
    body_at version (kind b) sender (body_bytes version b ++ rest) ≡ Some (b, rest)
unfolding body_at request_at exchange_at vote_at sweep_at final_at switch_at u32
body_again version sender (request_body have) rest h =
    made_again _ _ (optional_at (number_at w32)) have_codec request_body have rest h
body_again version sender (exchange_body x) rest h =
    let t = both (between 1 3 x.round) _ h in
    ap (λ r. r >>= λ (y : ℕ × List ℕ). items_at sender y.0 y.1 >>= λ is.
    Some (exchange_body (record { round = y.0; items = is.0 }), is.1))
    (round_codec.again x.round (counted item_bytes x.items ++ rest) t.0)
    ∙ ap (λ r. r >>= λ (is : List ItemValue × List ℕ).
    Some (exchange_body (record { round = x.round; items = is.0 }), is.1))
    ((items_codec sender x.round (round_low x.round t.0)).again x.items rest t.1)
body_again version sender (vote_body words) rest h =
    made_again _ _ (counted_by (between 1 8) word_at) (words_codec 1 8) vote_body words rest h
body_again version sender (sweep_body s) rest h =
    made_again _ _ (pair channel_at (pair (number_at w32) swept_copies_at)) sweep_codec
    (λ x. sweep_body (record { target = x.0; start = x.1.0; copies = x.1.1 })) (s.target, (s.start, s.copies)) rest
    h
body_again version sender (final_body f) rest h =
    made_again _ _ (pair channel_at (pair (number_at w32) (pair final_copies_at (control_at version))))
    (final_codec version) (λ x.
    final_body (record { target = x.0; start = x.1.0; copies = x.1.1.0; control = x.1.1.1 }))
    (f.target, (f.start, (f.copies, f.control))) rest h
body_again version sender (switch_body active) rest h = made_again _ _ set_at set_codec switch_body active rest h

-- ---- frames

magic_codec : IsCodec (λ b. b ∷ []) (λ b. b == 0x47) (checked (λ b. b == 0x47) byte_at)
magic_codec = tested_byte (λ b. b == 0x47) (λ b h. lt-ltb b 256 (omega (arith, eqb-true b 0x47 h)))

version_codec : IsCodec (λ b. b ∷ []) (between 1 2) (checked (between 1 2) byte_at)
version_codec = tested_byte (between 1 2)
    (λ b h. lt-ltb b 256 (omega (arith, leb-true b 2 (both (nat_le 1 b) (nat_le b 2) h).1)))

-- the frame of the fields that were read
made_of : ℕ → ℕ → ℕ → BodyValue → FrameValue
made_of version sender cycle body = record { version = version; sender = sender; cycle = cycle; body = body }

abbrev pub IsFrameOf : List ℕ → FrameValue → List ℕ → Type 0
IsFrameOf bytes f rest = (in_range f ≡ true) × (bytes ≡ spelling f ++ rest)

pub frame_sound : (bytes : List ℕ) (f : FrameValue) (rest : List ℕ) → IsBytes bytes → frame_at bytes ≡ Some (f, rest) →
    IsFrameOf bytes f rest
unfolding frame_at
frame_sound bytes f rest ok e =
    let m = bind_some (checked (λ b. b == 0x47) byte_at bytes) _ (f, rest) e in
    let v = bind_some (checked (between 1 2) byte_at m.0.1) _ (f, rest) m.2 in
    let k = bind_some (byte_at v.0.1) _ (f, rest) v.2 in
    let s = bind_some (channel_at k.0.1) _ (f, rest) k.2 in
    let c = bind_some (number_at w32 s.0.1) _ (f, rest) s.2 in
    let b = bind_some (body_at v.0.0 k.0.0 s.0.0 c.0.1) _ (f, rest) c.2 in
    let ms = magic_codec.sound bytes m.0.0 m.0.1 ok m.1 in
    let m_ok = IsBytes-after (m.0.0 ∷ []) m.0.1 (subst IsBytes ms.1 ok) in
    let vs = version_codec.sound m.0.1 v.0.0 v.0.1 m_ok v.1 in
    let v_ok = IsBytes-after (v.0.0 ∷ []) v.0.1 (subst IsBytes vs.1 m_ok) in
    let ks = byte_codec.sound v.0.1 k.0.0 k.0.1 v_ok k.1 in
    let k_ok = IsBytes-after (k.0.0 ∷ []) k.0.1 (subst IsBytes ks.1 v_ok) in
    let ss = channel_codec.sound k.0.1 s.0.0 s.0.1 k_ok s.1 in
    let s_ok = IsBytes-after (s.0.0 ∷ []) s.0.1 (subst IsBytes ss.1 k_ok) in
    let cs = u32_codec.sound s.0.1 c.0.0 c.0.1 s_ok c.1 in
    let c_ok = IsBytes-after (u32 c.0.0) c.0.1 (subst IsBytes cs.1 s_ok) in
    let bs = body_sound v.0.0 k.0.0 s.0.0 c.0.1 b.0.0 b.0.1 c_ok b.1 in
    subst (λ (p : FrameValue × List ℕ). IsFrameOf bytes p.0 p.1)
    (some_is (record { version = v.0.0; sender = s.0.0; cycle = c.0.0; body = b.0.0 }, b.0.1) (f, rest) b.2) (
      and_true (between 1 2 v.0.0) _ vs.0
          (and_true (is_channel s.0.0) _ ss.0 (and_true (fits_u32 c.0.0) _ cs.0 bs.ranges)),
      ms.1 ∙ ap (λ x. x ∷ m.0.1) (eqb-true m.0.0 0x47 ms.0)
          ∙ ap (λ x. 0x47 ∷ x) (vs.1
          ∙ ap (λ x. v.0.0 ∷ x) (ks.1 ∙ ap (λ x. x ∷ k.0.1) (sym bs.kind_is)
          ∙ ap (λ x. kind b.0.0 ∷ x) (ss.1 ∙ ap (λ x. s.0.0 ∷ x)
          (cs.1 ∙ ap (λ x. u32 c.0.0 ++ x) bs.spelled
          ∙ sym (append_assoc (u32 c.0.0) (body_bytes v.0.0 b.0.0) b.0.1))))),
    )

pub frame_again : (f : FrameValue) (rest : List ℕ) → in_range f ≡ true → frame_at (spelling f ++ rest) ≡ Some (f, rest)
unfolding frame_at channel_at
frame_again f rest h =
    let v = both (between 1 2 f.version) _ h in
    let s = both (is_channel f.sender) _ v.1 in
    let c = both (fits_u32 f.cycle) _ s.1 in
    let tail : List ℕ = body_bytes f.version f.body ++ rest in
    let regrouped : (u32 f.cycle ++ body_bytes f.version f.body) ++ rest ≡ u32 f.cycle ++ tail =
    append_assoc (u32 f.cycle) (body_bytes f.version f.body) rest in
    ap (λ x. frame_at (0x47 ∷ f.version ∷ kind f.body ∷ f.sender ∷ x)) regrouped
    ∙ rw (v.0, s.0, u32_codec.again f.cycle tail c.0, body_again f.version f.sender f.body rest c.1) refl

pub found : (bytes : List ℕ) (f : FrameValue) → IsBytes bytes → frame_in bytes ≡ Some f → Spells bytes f
unfolding frame_in
found bytes f ok e =
    let a = bind_some (frame_at bytes) (λ x. cond (length x.1 == 0) (Some x.0) None) f e in
    let t = if_some (length a.0.1 == 0) a.0.0 f a.2 in
    let s = frame_sound bytes a.0.0 a.0.1 ok a.1 in
    let nothing : a.0.1 ≡ [] = nil_from_length a.0.1 (eqb-true _ _ t.0) in
    subst (λ g. Spells bytes g) t.1 (s.0, s.1 ∙ ap (λ r. spelling a.0.0 ++ r) nothing ∙ append-nil (spelling a.0.0))

pub only : (bytes : List ℕ) (f : FrameValue) → Spells bytes f → frame_in bytes ≡ Some f
unfolding frame_in
only bytes f h =
    ap frame_in (h.1 ∙ sym (append-nil (spelling f)))
    ∙ ap (λ r. r >>= λ (x : FrameValue × List ℕ). cond (length x.1 == 0) (Some x.0) None) (frame_again f [] h.0)

-- the spellings of two frames of which one begins the other are of one frame, and nothing follows
pub no_prefix : (bytes rest : List ℕ) (f g : FrameValue) → Spells bytes f → Spells (bytes ++ rest) g →
    (f ≡ g) × (rest ≡ [])
no_prefix bytes rest f g h k =
    let front : frame_at (bytes ++ rest) ≡ Some (f, rest) =
    ap (λ bs. frame_at (bs ++ rest)) h.1 ∙ frame_again f rest h.0 in
    let whole : frame_at (bytes ++ rest) ≡ Some (g, []) =
    ap frame_at (k.1 ∙ sym (append-nil (spelling g))) ∙ frame_again g [] k.0 in
    let same = some_is (f, rest) (g, []) (sym front ∙ whole) in
    (ap (λ (p : FrameValue × List ℕ). p.0) same, ap (λ (p : FrameValue × List ℕ). p.1) same)
