-- The words of a record's lines are read back.
use Rattle.std.proofs.Common.{◌≡◌, ℕ, ◌+◌, ◌/◌, ◌%◌, ◌^◌, ◌<◌, ◌≤◌, Bool, true, false, ltb, leb, ◌==◌, cond, List, [], ◌∷◌, ◌++◌, map, take, drop, Option, Some, None, codes, refl, ap, ◌∙◌, inl, inr, arith}
use Rattle.std.specs.List.{AllByRecursion, flat_map, slice_split}
use Rattle.std.specs.Option.{option_map}
use Rattle.std.specs.Str.{bytes_eq}
use Rattle.std.specs.Fmt.{decimal, digit_glyph}
use Rattle.std.proofs.lemmas.Bool.{and_from, lt-ltb, le-ltb, le-leb, lt-leb, cases_lt}
use Rattle.std.proofs.lemmas.List.{append-nil, length-append}
use Rattle.std.proofs.lemmas.List.Splits.{slice_split_at, slice_split_none}
use Rattle.svc_base.specs.declared.settings.Setting.{Setting}
use Rattle.svc_base.specs.declared.settings.Setting.TheVariants.{NoDelay, KeepAlive, Dscp, SndBuf, RcvBuf}
use Rattle.svc_record.specs.declared.event.ShutdownSignal.{ShutdownSignal}
use Rattle.svc_record.specs.declared.event.ShutdownSignal.TheVariants as signals
use Rattle.svc_record.specs.declared.event.Side.{Side}
use Rattle.svc_record.specs.declared.event.Side.TheVariants.{Child, Parent}
use Rattle.svc_record.specs.declared.action.ExecutionPhase.{ExecutionPhase}
use Rattle.svc_record.specs.declared.action.ExecutionPhase.TheVariants as phases
use Rattle.svc_record.specs.Text.{ok_word, yes_word, signal_word, side_word, phase_word, hex_byte, bytes_word, numbers_word, setting_word, SettingFits}
use Rattle.svc_base.specs.Options.{◌>>=◌}
use Rattle.svc_base.specs.Words.{number_of}
use Rattle.svc_text.specs.NumberLists.{all_some, joined_of}
use Rattle.svc_text.specs.EventLines.{signal_of, side_of, ok_of, hex_digit_of, hex_byte_of, hex_of, bytes_of, listed_of}
use Rattle.svc_base.proofs.DecimalLemmas.{number_of-decimal}
use Rattle.svc_text.proofs.Visible.{is_visible, IsWord, visible_append}
use Rattle.svc_text.proofs.DigitLemmas.{glyph_high, digits_high, digits_some, digits_word, high_without, no_dash_first, no_dash}

-- ---- numbers and names

pub n8 : (n : ℕ) → n < 2 ^ 8 → number_of (2 ^ 8) (decimal n) ≡ Some n
n8 n h = number_of-decimal (2 ^ 8) n (omega arith) h

pub n32 : (n : ℕ) → n < 2 ^ 32 → number_of (2 ^ 32) (decimal n) ≡ Some n
n32 n h = number_of-decimal (2 ^ 32) n (omega arith) h

pub n64 : (n : ℕ) → n < 2 ^ 64 → number_of (2 ^ 64) (decimal n) ≡ Some n
n64 n h = number_of-decimal (2 ^ 64) n (omega arith) h

pub ok_back : (ok : Bool) → ok_of (ok_word ok) ≡ Some ok
unfolding ok_of
ok_back true = refl
ok_back false = refl

pub signal_back : (kind : ShutdownSignal) → signal_of (signal_word kind) ≡ Some kind
unfolding signal_of
signal_back signals.FastShutdown = refl
signal_back signals.GracefulTerminate = refl
signal_back signals.GracefulUpgrade = refl

pub side_back : (side : Side) → side_of (side_word side) ≡ Some side
unfolding side_of
side_back Child = refl
side_back Parent = refl

-- ---- bytes in hexadecimal

digit_low : (b n : ℕ) → b ≡ 48 + n → n < 10 → hex_digit_of b ≡ Some n
unfolding hex_digit_of
digit_low b n e h =
    let p : leb 48 b ≡ true = le-leb 48 b (omega arith) in
    let q : leb b 57 ≡ true = le-leb b 57 (omega arith) in
    rw (p, q) (ap (λ (m : ℕ). Some m) (omega arith))

digit_letter : (b n : ℕ) → b ≡ 87 + n → 10 ≤ n → n < 16 → hex_digit_of b ≡ Some n
unfolding hex_digit_of
digit_letter b n e low high =
    let p : leb 48 b ≡ true = le-leb 48 b (omega arith) in
    let q : leb b 57 ≡ false = lt-leb b 57 (omega arith) in
    let r : leb 97 b ≡ true = le-leb 97 b (omega arith) in
    let s : leb b 102 ≡ true = le-leb b 102 (omega arith) in
    rw (p, q, r, s) (ap (λ (m : ℕ). Some m) (omega arith))

glyph_low : (d : ℕ) → d < 10 → digit_glyph false d ≡ 48 + d
glyph_low d h = let t : ltb d 10 ≡ true = lt-ltb d 10 h in rw t refl

glyph_letter : (d : ℕ) → ltb d 10 ≡ false → digit_glyph false d ≡ 87 + d
glyph_letter d t = rw t refl

hex_digit_back : (d : ℕ) → d < 16 → hex_digit_of (digit_glyph false d) ≡ Some d
hex_digit_back d h =
    elim (cases_lt d 10) [
      | inl small ↦ digit_low (digit_glyph false d) d (glyph_low d small) small
      | inr large ↦ digit_letter (digit_glyph false d) d (glyph_letter d (le-ltb d 10 large)) large h
    ]

hex_byte_back : (b : ℕ) → b < 2 ^ 8 → hex_byte_of (digit_glyph false (b / 16)) (digit_glyph false (b % 16)) ≡ Some b
unfolding hex_byte_of
hex_byte_back b h = rw (hex_digit_back (b / 16) (omega arith), hex_digit_back (b % 16) (omega arith)) (ap (λ (m : ℕ). Some m) (omega arith))

hex_back : (bytes : List ℕ) → AllByRecursion (λ b. b < 2 ^ 8) bytes → hex_of (flat_map hex_byte bytes) ≡ Some bytes
unfolding hex_of
hex_back [] h = refl
hex_back (b ∷ bytes) h = rw (hex_byte_back b h.0, hex_back bytes h.1) refl

pub bytes_back : (bytes : List ℕ) → AllByRecursion (λ b. b < 2 ^ 8) bytes → bytes_of (bytes_word bytes) ≡ Some bytes
unfolding bytes_of
bytes_back [] h = refl
bytes_back (b ∷ bytes) h =
    let dash : bytes_eq (bytes_word (b ∷ bytes)) (codes "-") ≡ false =
    no_dash_first (digit_glyph false (b / 16)) (digit_glyph false (b % 16) ∷ flat_map hex_byte bytes) (glyph_high (b / 16)) in
    rw dash (hex_back (b ∷ bytes) h)

glyph_visible : (d : ℕ) → ltb 32 (digit_glyph false d) ≡ true
glyph_visible d = let h = glyph_high d in lt-ltb 32 (digit_glyph false d) (omega arith)

hex_visible : (bytes : List ℕ) → is_visible (flat_map hex_byte bytes) ≡ true
hex_visible [] = refl
hex_visible (b ∷ bytes) =
    and_from _ _ (glyph_visible (b / 16)) (and_from _ _ (glyph_visible (b % 16)) (hex_visible bytes))

pub bytes_fit : (bytes : List ℕ) → IsWord (bytes_word bytes)
bytes_fit [] = record { visible = refl; some = omega arith }
bytes_fit (b ∷ bytes) = record { visible = hex_visible (b ∷ bytes); some = omega arith }

-- ---- numbers joined by commas

abbrev after_commas : List ℕ → List ℕ
after_commas ns = flat_map (λ m. 44 ∷ decimal m) ns

cut_numbers : (n : ℕ) (ns : List ℕ) → slice_split (λ b. b == 44) (decimal n ++ after_commas ns) ≡ decimal n ∷ map decimal ns
cut_numbers n [] =
    ap (slice_split (λ b. b == 44)) (append-nil (decimal n))
    ∙ slice_split_none (λ b. b == 44) (decimal n) (high_without 44 (decimal n) (omega arith) (digits_high 10 n))
cut_numbers n (m ∷ ns) =
    slice_split_at (λ b. b == 44) (decimal n) 44 (decimal m ++ after_commas ns) (high_without 44 (decimal n) (omega arith) (digits_high 10 n)) refl
    ∙ ap (λ (ws : List (List ℕ)). decimal n ∷ ws) (cut_numbers m ns)

numbers_read : (ns : List ℕ) → AllByRecursion (λ n. n < 2 ^ 64) ns → all_some (map (number_of (2 ^ 64)) (map decimal ns)) ≡ Some ns
numbers_read [] h = refl
numbers_read (n ∷ ns) h = rw (n64 n h.0, numbers_read ns h.1) refl

joined_back : (n : ℕ) (ns : List ℕ) → AllByRecursion (λ m. m < 2 ^ 64) (n ∷ ns) → joined_of (numbers_word (n ∷ ns)) ≡ Some (n ∷ ns)
unfolding joined_of
joined_back n ns h = ap (λ (ws : List (List ℕ)). all_some (map (number_of (2 ^ 64)) ws)) (cut_numbers n ns) ∙ numbers_read (n ∷ ns) h

pub listed_back : (ns : List ℕ) → AllByRecursion (λ n. n < 2 ^ 64) ns → listed_of (numbers_word ns) ≡ Some ns
unfolding listed_of
listed_back [] h = refl
listed_back (n ∷ ns) h =
    let dash : bytes_eq (numbers_word (n ∷ ns)) (codes "-") ≡ false = no_dash (decimal n) (after_commas ns) (digits_some 10 n) (digits_high 10 n) in
    rw dash (joined_back n ns h)

commas_visible : (ns : List ℕ) → is_visible (after_commas ns) ≡ true
commas_visible [] = refl
commas_visible (n ∷ ns) = visible_append (decimal n) (after_commas ns) (digits_word 10 n).visible (commas_visible ns)

pub numbers_fit : (ns : List ℕ) → IsWord (numbers_word ns)
numbers_fit [] = record { visible = refl; some = omega arith }
numbers_fit (n ∷ ns) = record {
  visible = visible_append (decimal n) (after_commas ns) (digits_word 10 n).visible (commas_visible ns);
  some = simp length-append (omega (arith, digits_some 10 n));
}

-- ---- what is read back in proofs alone: answers of filters, phases and settings

pub yes_of : List ℕ → Option Bool
yes_of word = cond (bytes_eq word (codes "yes")) (Some true) (cond (bytes_eq word (codes "no")) (Some false) None)

pub yes_back : (said : Bool) → yes_of (yes_word said) ≡ Some said
unfolding yes_of
yes_back true = refl
yes_back false = refl

pub phase_of : List ℕ → Option ExecutionPhase
phase_of word =
    cond (bytes_eq word (codes "Setup")) (Some phases.Setup) (
    cond (bytes_eq word (codes "Bootstrap")) (Some phases.Bootstrap) (
    cond (bytes_eq word (codes "BootstrapComplete")) (Some phases.BootstrapComplete) (
    cond (bytes_eq word (codes "Running")) (Some phases.Running) (
    cond (bytes_eq word (codes "GracefulUpgradeTransferringFds")) (Some phases.GracefulUpgradeTransferringFds) (
    cond (bytes_eq word (codes "GracefulUpgradeCloseTimeout")) (Some phases.GracefulUpgradeCloseTimeout) (
    cond (bytes_eq word (codes "GracefulTerminate")) (Some phases.GracefulTerminate) (
    cond (bytes_eq word (codes "ShutdownStarted")) (Some phases.ShutdownStarted) (
    cond (bytes_eq word (codes "ShutdownGracePeriod")) (Some phases.ShutdownGracePeriod) (
    cond (bytes_eq word (codes "ShutdownRuntimes")) (Some phases.ShutdownRuntimes) (
    Some phases.Terminated))))))))))

pub phase_back : (p : ExecutionPhase) → phase_of (phase_word p) ≡ Some p
unfolding phase_of
phase_back phases.Setup = refl
phase_back phases.Bootstrap = refl
phase_back phases.BootstrapComplete = refl
phase_back phases.Running = refl
phase_back phases.GracefulUpgradeTransferringFds = refl
phase_back phases.GracefulUpgradeCloseTimeout = refl
phase_back phases.GracefulTerminate = refl
phase_back phases.ShutdownStarted = refl
phase_back phases.ShutdownGracePeriod = refl
phase_back phases.ShutdownRuntimes = refl
phase_back phases.Terminated = refl

pub phase_fits : (p : ExecutionPhase) → IsWord (phase_word p)
phase_fits phases.Setup = record { visible = refl; some = omega arith }
phase_fits phases.Bootstrap = record { visible = refl; some = omega arith }
phase_fits phases.BootstrapComplete = record { visible = refl; some = omega arith }
phase_fits phases.Running = record { visible = refl; some = omega arith }
phase_fits phases.GracefulUpgradeTransferringFds = record { visible = refl; some = omega arith }
phase_fits phases.GracefulUpgradeCloseTimeout = record { visible = refl; some = omega arith }
phase_fits phases.GracefulTerminate = record { visible = refl; some = omega arith }
phase_fits phases.ShutdownStarted = record { visible = refl; some = omega arith }
phase_fits phases.ShutdownGracePeriod = record { visible = refl; some = omega arith }
phase_fits phases.ShutdownRuntimes = record { visible = refl; some = omega arith }
phase_fits phases.Terminated = record { visible = refl; some = omega arith }

keepalive_of : List ℕ → Option Setting
keepalive_of (a ∷ b ∷ c ∷ d ∷ []) = Some (KeepAlive (record { idle = a; interval = b; count = c; user_timeout = d }))
keepalive_of _ = None

pub setting_of : List ℕ → Option Setting
setting_of word =
    cond (bytes_eq word (codes "nodelay")) (Some NoDelay)
    (cond (bytes_eq (take 10 word) (codes "keepalive=")) (joined_of (drop 10 word) >>= keepalive_of)
    (cond (bytes_eq (take 5 word) (codes "dscp=")) (option_map Dscp (number_of (2 ^ 8) (drop 5 word)))
    (cond (bytes_eq (take 7 word) (codes "sndbuf=")) (option_map SndBuf (number_of (2 ^ 64) (drop 7 word)))
    (option_map RcvBuf (number_of (2 ^ 64) (drop 7 word))))))

setting_back : (x : Setting) → SettingFits x → setting_of (setting_word x) ≡ Some x
unfolding setting_of keepalive_of
setting_back NoDelay h = refl
setting_back (KeepAlive k) h = rw (joined_back k.idle (k.interval ∷ k.count ∷ k.user_timeout ∷ []) (h.0, (h.1, (h.2, (h.3, tt))))) refl
setting_back (Dscp n) h = rw (n8 n h) refl
setting_back (SndBuf n) h = rw (n64 n h) refl
setting_back (RcvBuf n) h = rw (n64 n h) refl

pub settings_back : (xs : List Setting) → AllByRecursion SettingFits xs → all_some (map setting_of (map setting_word xs)) ≡ Some xs
settings_back [] h = refl
settings_back (x ∷ xs) h = rw (setting_back x h.0, settings_back xs h.1) refl

setting_fits : (x : Setting) → IsWord (setting_word x)
setting_fits NoDelay = record { visible = refl; some = omega arith }
setting_fits (KeepAlive k) = record { visible = (numbers_fit (k.idle ∷ k.interval ∷ k.count ∷ k.user_timeout ∷ [])).visible; some = omega arith }
setting_fits (Dscp n) = record { visible = (digits_word 10 n).visible; some = omega arith }
setting_fits (SndBuf n) = record { visible = (digits_word 10 n).visible; some = omega arith }
setting_fits (RcvBuf n) = record { visible = (digits_word 10 n).visible; some = omega arith }

pub settings_fit : (xs : List Setting) → AllByRecursion IsWord (map setting_word xs)
settings_fit [] = tt
settings_fit (x ∷ xs) = (setting_fits x, settings_fit xs)

pub ok_fits : (ok : Bool) → IsWord (ok_word ok)
ok_fits true = record { visible = refl; some = omega arith }
ok_fits false = record { visible = refl; some = omega arith }

pub yes_fits : (said : Bool) → IsWord (yes_word said)
yes_fits true = record { visible = refl; some = omega arith }
yes_fits false = record { visible = refl; some = omega arith }

pub signal_fits : (kind : ShutdownSignal) → IsWord (signal_word kind)
signal_fits signals.FastShutdown = record { visible = refl; some = omega arith }
signal_fits signals.GracefulTerminate = record { visible = refl; some = omega arith }
signal_fits signals.GracefulUpgrade = record { visible = refl; some = omega arith }

pub side_fits : (side : Side) → IsWord (side_word side)
side_fits Child = record { visible = refl; some = omega arith }
side_fits Parent = record { visible = refl; some = omega arith }
