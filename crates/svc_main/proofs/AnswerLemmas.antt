-- What a status says of the answer.
use Rattle.std.proofs.Common.{◌≡◌, ◌⊎◌, inl, inr, ℕ, List, [], ◌∷◌, length, Option, sym, ap, ◌∙◌, arith, codes, ◌<◌, ◌++◌, All, subst, refl, None, true}
use Rattle.std.specs.List.{AllByRecursion}
use Rattle.std.specs.Fmt.{decimal}
use Rattle.svc_conf.specs.declared.server.configuration.key.Key.{Key}
use Rattle.svc_conf.specs.declared.server.configuration.key.Key.TheVariants.{Version, Daemon, ErrorLog, PidFile, UpgradeSock, User, Group, WorkingDirectory, Threads, ListenerTasksPerFd, WorkStealing, RuntimeEnableAltTimer, CaFile, GracePeriodSeconds, GracefulShutdownTimeoutSeconds, ClientBindToIpv4, ClientBindToIpv6, UpstreamKeepalivePoolSize, UpstreamConnectOffloadThreadpools, UpstreamConnectOffloadThreadPerPool, DownstreamTlsOffloadThreadpools, DownstreamTlsOffloadThreadPerPool, UpstreamDebugSslKeylog, MaxRetries, UpgradeSockConnectAcceptMaxRetries, MaxBlockingThreads, BlockingThreadsTtlSeconds, FastTimeoutToTokioThresholdSeconds, RuntimeMetricsPollTimeHistogram, RuntimeMetricsPollTimeHistogramScale, RuntimeMetricsPollTimeHistogramResolutionMicros, RuntimeMetricsPollTimeHistogramBuckets, DaemonWaitForReady, DaemonReadyTimeoutSeconds, DaemonNotifyTimeoutSeconds}
use Rattle.svc_conf.specs.Keys.{key_name}
use Rattle.svc_record.specs.declared.action.BootstrapError.TheVariants.{Transfer, NoSender, BadMessage}
use Rattle.svc_record.specs.declared.entry.Entry.{Entry}
use Rattle.svc_record.specs.Text.{spaced, text_of, EntryFits}
use Rattle.svc_text.proofs.Visible.{IsWord, is_visible, decimal_word}
use Rattle.svc_text.proofs.Back.{entry_of, no_entry, IsLastLine, spaced_last, same_record_before}
use Rattle.std.specs.Io.KnownBytes.{Appends}
use Rattle.svc_main.specs.declared.outcome.RunEnd.{RunEnd}
use Rattle.svc_main.specs.declared.outcome.RunEnd.TheVariants.{Served, Tested, Parent, Config, HostFault, Bootstrap, Stray, OutOfEvents}
use Rattle.svc_main.specs.declared.outcome.StatusLine.{StatusLine}
use Rattle.svc_main.specs.declared.outcome.StatusLine.TheVariants.{Words, Line, ReadFault, Run}
use Rattle.svc_main.specs.Status.{end_text, status_text, status_line, EndFits, StatusFits, end_status, status_of}
use Rattle.svc_main.specs.Program.{IsAnswer, Ends, Ran, Made}
use Rattle.svc_main.proofs.WordsLemmas.{run_asks}

-- an answer by its status, which isn't one of another line: of a run, or of the generator, which is served
ran_or_made : (status : ℕ) → (status ≡ 2 → ⊥) → (status ≡ 3 → ⊥) → (status ≡ 5 → ⊥)
    → (words : List (List ℕ)) (left now_left before now : Option (List ℕ)) (line : StatusLine) (out : List ℕ)
    → IsAnswer words left line out → Ends words line now_left → Appends before now out → status_of line ≡ status
    → Ran status words left now_left before now ⊎ ((status ≡ 0) × Made words before now)
ran_or_made status two three five words left now_left before now Words out a d p e = absurd (two (sym e))
ran_or_made status two three five words left now_left before now (Line n) out a d p e = absurd (three (sym e))
ran_or_made status two three five words left now_left before now ReadFault out a d p e = absurd (five (sym e))
ran_or_made status two three five words left now_left before now (Run end) out a d p e = by a
  where
    by : IsAnswer words left (Run end) out → Ran status words left now_left before now ⊎ ((status ≡ 0) × Made words before now)
    by (inl ran) = inl (end, e, ran.0, d (run_asks words ran.0.run), (out, ran.1, p))
    by (inr made) = inr (sym e ∙ ap end_status made.0, (out, made.1, p))

pub served_from : (words : List (List ℕ)) (left now_left before now : Option (List ℕ)) (line : StatusLine) (out : List ℕ)
    → IsAnswer words left line out → Ends words line now_left → Appends before now out → status_of line ≡ 0
    → Ran 0 words left now_left before now ⊎ Made words before now
served_from words left now_left before now line out a d p e =
    elim (ran_or_made 0 (λ q. omega (arith, q)) (λ q. omega (arith, q)) (λ q. omega (arith, q)) words left now_left before now line out a d p e) [
      | inl ran ↦ inl ran
      | inr made ↦ inr made.1
    ]

pub ran_from : (status : ℕ) → (status ≡ 0 → ⊥) → (status ≡ 2 → ⊥) → (status ≡ 3 → ⊥) → (status ≡ 5 → ⊥)
    → (words : List (List ℕ)) (left now_left before now : Option (List ℕ)) (line : StatusLine) (out : List ℕ)
    → IsAnswer words left line out → Ends words line now_left → Appends before now out → status_of line ≡ status → Ran status words left now_left before now
ran_from status zero two three five words left now_left before now line out a d p e =
    elim (ran_or_made status two three five words left now_left before now line out a d p e) [
      | inl ran ↦ ran
      | inr made ↦ absurd (zero made.0)
    ]

-- ---- the record is known from what was written

word : (w : List ℕ) → is_visible w ≡ true → 0 < length w → IsWord w
word w v n = record { visible = v; some = n }

end_words : RunEnd → List (List ℕ)
end_words Served = codes "served" ∷ []
end_words Tested = codes "tested" ∷ []
end_words (Parent n) = codes "parent" ∷ decimal n ∷ []
end_words (Config key) = codes "config" ∷ key_name key ∷ []
end_words HostFault = codes "host" ∷ codes "fault" ∷ []
end_words (Bootstrap Transfer) = codes "transfer" ∷ []
end_words (Bootstrap NoSender) = codes "no" ∷ codes "sender" ∷ []
end_words (Bootstrap BadMessage) = codes "bad" ∷ codes "message" ∷ []
end_words (Stray k) = codes "stray" ∷ decimal k ∷ []
end_words OutOfEvents = codes "out" ∷ codes "of" ∷ codes "events" ∷ []

status_words : StatusLine → List (List ℕ)
status_words Words = codes "status" ∷ codes "words" ∷ []
status_words (Line n) = codes "status" ∷ codes "line" ∷ decimal n ∷ []
status_words ReadFault = codes "status" ∷ codes "read" ∷ codes "fault" ∷ []
status_words (Run end) = codes "status" ∷ end_words end

spelt_end : (end : RunEnd) → spaced (codes "status" ∷ end_words end) ≡ codes "status " ++ end_text end
unfolding end_words
spelt_end Served = refl
spelt_end Tested = refl
spelt_end (Parent n) = refl
spelt_end (Config key) = refl
spelt_end HostFault = refl
spelt_end (Bootstrap Transfer) = refl
spelt_end (Bootstrap NoSender) = refl
spelt_end (Bootstrap BadMessage) = refl
spelt_end (Stray k) = refl
spelt_end OutOfEvents = refl

spelt : (s : StatusLine) → spaced (status_words s) ≡ status_text s
unfolding status_words
spelt Words = refl
spelt (Line n) = refl
spelt ReadFault = refl
spelt (Run end) = spelt_end end

key_word : (key : Key) → IsWord (key_name key)
key_word Version = word _ refl (omega arith)
key_word Daemon = word _ refl (omega arith)
key_word ErrorLog = word _ refl (omega arith)
key_word PidFile = word _ refl (omega arith)
key_word UpgradeSock = word _ refl (omega arith)
key_word User = word _ refl (omega arith)
key_word Group = word _ refl (omega arith)
key_word WorkingDirectory = word _ refl (omega arith)
key_word Threads = word _ refl (omega arith)
key_word ListenerTasksPerFd = word _ refl (omega arith)
key_word WorkStealing = word _ refl (omega arith)
key_word RuntimeEnableAltTimer = word _ refl (omega arith)
key_word CaFile = word _ refl (omega arith)
key_word GracePeriodSeconds = word _ refl (omega arith)
key_word GracefulShutdownTimeoutSeconds = word _ refl (omega arith)
key_word ClientBindToIpv4 = word _ refl (omega arith)
key_word ClientBindToIpv6 = word _ refl (omega arith)
key_word UpstreamKeepalivePoolSize = word _ refl (omega arith)
key_word UpstreamConnectOffloadThreadpools = word _ refl (omega arith)
key_word UpstreamConnectOffloadThreadPerPool = word _ refl (omega arith)
key_word DownstreamTlsOffloadThreadpools = word _ refl (omega arith)
key_word DownstreamTlsOffloadThreadPerPool = word _ refl (omega arith)
key_word UpstreamDebugSslKeylog = word _ refl (omega arith)
key_word MaxRetries = word _ refl (omega arith)
key_word UpgradeSockConnectAcceptMaxRetries = word _ refl (omega arith)
key_word MaxBlockingThreads = word _ refl (omega arith)
key_word BlockingThreadsTtlSeconds = word _ refl (omega arith)
key_word FastTimeoutToTokioThresholdSeconds = word _ refl (omega arith)
key_word RuntimeMetricsPollTimeHistogram = word _ refl (omega arith)
key_word RuntimeMetricsPollTimeHistogramScale = word _ refl (omega arith)
key_word RuntimeMetricsPollTimeHistogramResolutionMicros = word _ refl (omega arith)
key_word RuntimeMetricsPollTimeHistogramBuckets = word _ refl (omega arith)
key_word DaemonWaitForReady = word _ refl (omega arith)
key_word DaemonReadyTimeoutSeconds = word _ refl (omega arith)
key_word DaemonNotifyTimeoutSeconds = word _ refl (omega arith)

end_fits : (end : RunEnd) → EndFits end → AllByRecursion IsWord (end_words end)
unfolding end_words
end_fits Served h = (word _ refl (omega arith), tt)
end_fits Tested h = (word _ refl (omega arith), tt)
end_fits (Parent n) h = (word _ refl (omega arith), (decimal_word n (omega (arith, h)), tt))
end_fits (Config key) h = (word _ refl (omega arith), (key_word key, tt))
end_fits HostFault h = (word _ refl (omega arith), (word _ refl (omega arith), tt))
end_fits (Bootstrap Transfer) h = (word _ refl (omega arith), tt)
end_fits (Bootstrap NoSender) h = (word _ refl (omega arith), (word _ refl (omega arith), tt))
end_fits (Bootstrap BadMessage) h = (word _ refl (omega arith), (word _ refl (omega arith), tt))
end_fits (Stray k) h = (word _ refl (omega arith), (decimal_word k h, tt))
end_fits OutOfEvents h = (word _ refl (omega arith), (word _ refl (omega arith), (word _ refl (omega arith), tt)))

status_fits : (s : StatusLine) → StatusFits s → AllByRecursion IsWord (status_words s)
unfolding status_words
status_fits Words h = (word _ refl (omega arith), (word _ refl (omega arith), tt))
status_fits (Line n) h = (word _ refl (omega arith), (word _ refl (omega arith), (decimal_word n h, tt)))
status_fits ReadFault h = (word _ refl (omega arith), (word _ refl (omega arith), (word _ refl (omega arith), tt)))
status_fits (Run end) h = (word _ refl (omega arith), end_fits end h)

status_is_no_entry : (s : StatusLine) → entry_of (status_words s) ≡ None
unfolding status_words
status_is_no_entry Words = no_entry _
status_is_no_entry (Line n) = no_entry _
status_is_no_entry ReadFault = no_entry _
status_is_no_entry (Run end) = no_entry _

is_last : (s : StatusLine) → StatusFits s → IsLastLine (status_text s)
is_last s h = subst IsLastLine (spelt s) (spaced_last (status_words s) (status_fits s h) (status_is_no_entry s))

pub same_answer : (r q : List Entry) (s t : StatusLine) → All EntryFits r → All EntryFits q → StatusFits s → StatusFits t
    → text_of r ++ status_line s ≡ text_of q ++ status_line t → r ≡ q
same_answer r q s t h k a b e = same_record_before r q (status_text s) (status_text t) h k (is_last s a) (is_last t b) e
