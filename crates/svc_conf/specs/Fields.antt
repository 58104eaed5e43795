-- What the value of each key is, and what a said value sets.
use Rattle.std.specs.Prelude.{ℕ, Bool, List, [], ◌∷◌, find, Option}
use Rattle.std.specs.Str.{bytes_eq}
use Rattle.svc_conf.specs.declared.server.configuration.key.Key.{Key}
use Rattle.svc_conf.specs.declared.server.configuration.key.Key.TheVariants as keys
use Rattle.svc_conf.specs.Keys.{key_name}
use Rattle.svc_conf.specs.declared.server.configuration.field.NumberKey.{NumberKey}
use Rattle.svc_conf.specs.declared.server.configuration.field.NumberKey.TheVariants as Numbers
use Rattle.svc_conf.specs.declared.server.configuration.field.FlagKey.{FlagKey}
use Rattle.svc_conf.specs.declared.server.configuration.field.FlagKey.TheVariants as Flags
use Rattle.svc_conf.specs.declared.server.configuration.field.TextKey.{TextKey}
use Rattle.svc_conf.specs.declared.server.configuration.field.TextKey.TheVariants as Texts
use Rattle.svc_conf.specs.declared.server.configuration.field.OptionalTextKey.{OptionalTextKey}
use Rattle.svc_conf.specs.declared.server.configuration.field.OptionalTextKey.TheVariants as OptionalTexts
use Rattle.svc_conf.specs.declared.server.configuration.field.OptionalNumberKey.{OptionalNumberKey}
use Rattle.svc_conf.specs.declared.server.configuration.field.OptionalNumberKey.TheVariants as OptionalNumbers
use Rattle.svc_conf.specs.declared.server.configuration.field.ListKey.{ListKey}
use Rattle.svc_conf.specs.declared.server.configuration.field.ListKey.TheVariants as Lists
use Rattle.svc_conf.specs.declared.server.configuration.field.Field.{Field}
use Rattle.svc_conf.specs.declared.server.configuration.field.Field.TheVariants.{Number, Flag, Text, OptionalText, OptionalNumber, Scale}
use Rattle.svc_conf.specs.declared.server.configuration.field.Field.TheVariants as fields
use Rattle.svc_conf.specs.declared.server.configuration.ServerConf.{ServerConf}
use Rattle.svc_base.specs.declared.runtime.RuntimeMetricsPollTimeHistogramScale.{RuntimeMetricsPollTimeHistogramScale}

-- what the value of a key is
abbrev pub field_of : Key → Field
field_of keys.Version = Number Numbers.Version
field_of keys.Daemon = Flag Flags.Daemon
field_of keys.ErrorLog = OptionalText OptionalTexts.ErrorLog
field_of keys.PidFile = Text Texts.PidFile
field_of keys.UpgradeSock = Text Texts.UpgradeSock
field_of keys.User = OptionalText OptionalTexts.User
field_of keys.Group = OptionalText OptionalTexts.Group
field_of keys.WorkingDirectory = OptionalText OptionalTexts.WorkingDirectory
field_of keys.Threads = Number Numbers.Threads
field_of keys.ListenerTasksPerFd = Number Numbers.ListenerTasksPerFd
field_of keys.WorkStealing = Flag Flags.WorkStealing
field_of keys.RuntimeEnableAltTimer = Flag Flags.RuntimeEnableAltTimer
field_of keys.CaFile = OptionalText OptionalTexts.CaFile
field_of keys.GracePeriodSeconds = OptionalNumber OptionalNumbers.GracePeriodSeconds
field_of keys.GracefulShutdownTimeoutSeconds = OptionalNumber OptionalNumbers.GracefulShutdownTimeoutSeconds
field_of keys.ClientBindToIpv4 = fields.List Lists.ClientBindToIpv4
field_of keys.ClientBindToIpv6 = fields.List Lists.ClientBindToIpv6
field_of keys.UpstreamKeepalivePoolSize = Number Numbers.UpstreamKeepalivePoolSize
field_of keys.UpstreamConnectOffloadThreadpools = OptionalNumber OptionalNumbers.UpstreamConnectOffloadThreadpools
field_of keys.UpstreamConnectOffloadThreadPerPool = OptionalNumber OptionalNumbers.UpstreamConnectOffloadThreadPerPool
field_of keys.DownstreamTlsOffloadThreadpools = OptionalNumber OptionalNumbers.DownstreamTlsOffloadThreadpools
field_of keys.DownstreamTlsOffloadThreadPerPool = OptionalNumber OptionalNumbers.DownstreamTlsOffloadThreadPerPool
field_of keys.UpstreamDebugSslKeylog = Flag Flags.UpstreamDebugSslKeylog
field_of keys.MaxRetries = Number Numbers.MaxRetries
field_of keys.UpgradeSockConnectAcceptMaxRetries = OptionalNumber OptionalNumbers.UpgradeSockConnectAcceptMaxRetries
field_of keys.MaxBlockingThreads = OptionalNumber OptionalNumbers.MaxBlockingThreads
field_of keys.BlockingThreadsTtlSeconds = OptionalNumber OptionalNumbers.BlockingThreadsTtlSeconds
field_of keys.FastTimeoutToTokioThresholdSeconds = OptionalNumber OptionalNumbers.FastTimeoutToTokioThresholdSeconds
field_of keys.RuntimeMetricsPollTimeHistogram = Flag Flags.RuntimeMetricsPollTimeHistogram
field_of keys.RuntimeMetricsPollTimeHistogramScale = Scale
field_of keys.RuntimeMetricsPollTimeHistogramResolutionMicros = OptionalNumber OptionalNumbers.RuntimeMetricsPollTimeHistogramResolutionMicros
field_of keys.RuntimeMetricsPollTimeHistogramBuckets = OptionalNumber OptionalNumbers.RuntimeMetricsPollTimeHistogramBuckets
field_of keys.DaemonWaitForReady = Flag Flags.DaemonWaitForReady
field_of keys.DaemonReadyTimeoutSeconds = OptionalNumber OptionalNumbers.DaemonReadyTimeoutSeconds
field_of keys.DaemonNotifyTimeoutSeconds = OptionalNumber OptionalNumbers.DaemonNotifyTimeoutSeconds

-- all keys, in the order in which they are printed
abbrev pub all_keys : List Key
all_keys =
    keys.Version ∷
    keys.Daemon ∷
    keys.ErrorLog ∷
    keys.PidFile ∷
    keys.UpgradeSock ∷
    keys.User ∷
    keys.Group ∷
    keys.WorkingDirectory ∷
    keys.Threads ∷
    keys.ListenerTasksPerFd ∷
    keys.WorkStealing ∷
    keys.RuntimeEnableAltTimer ∷
    keys.CaFile ∷
    keys.GracePeriodSeconds ∷
    keys.GracefulShutdownTimeoutSeconds ∷
    keys.ClientBindToIpv4 ∷
    keys.ClientBindToIpv6 ∷
    keys.UpstreamKeepalivePoolSize ∷
    keys.UpstreamConnectOffloadThreadpools ∷
    keys.UpstreamConnectOffloadThreadPerPool ∷
    keys.DownstreamTlsOffloadThreadpools ∷
    keys.DownstreamTlsOffloadThreadPerPool ∷
    keys.UpstreamDebugSslKeylog ∷
    keys.MaxRetries ∷
    keys.UpgradeSockConnectAcceptMaxRetries ∷
    keys.MaxBlockingThreads ∷
    keys.BlockingThreadsTtlSeconds ∷
    keys.FastTimeoutToTokioThresholdSeconds ∷
    keys.RuntimeMetricsPollTimeHistogram ∷
    keys.RuntimeMetricsPollTimeHistogramScale ∷
    keys.RuntimeMetricsPollTimeHistogramResolutionMicros ∷
    keys.RuntimeMetricsPollTimeHistogramBuckets ∷
    keys.DaemonWaitForReady ∷
    keys.DaemonReadyTimeoutSeconds ∷
    keys.DaemonNotifyTimeoutSeconds ∷
    []

-- the key with this name
unfoldable pub key_of : List ℕ → Option Key
key_of name = find (λ key. bytes_eq (key_name key) name) all_keys

-- a key of a list, as a key
abbrev pub list_key : ListKey → Key
list_key Lists.ClientBindToIpv4 = keys.ClientBindToIpv4
list_key Lists.ClientBindToIpv6 = keys.ClientBindToIpv6

-- the configuration with another number
abbrev pub set_number : NumberKey → ℕ → ServerConf → ServerConf
set_number Numbers.Version value conf = record conf { version = value }
set_number Numbers.Threads value conf = record conf { threads = value }
set_number Numbers.ListenerTasksPerFd value conf = record conf { listener_tasks_per_fd = value }
set_number Numbers.UpstreamKeepalivePoolSize value conf = record conf { upstream_keepalive_pool_size = value }
set_number Numbers.MaxRetries value conf = record conf { max_retries = value }

-- with another flag
abbrev pub set_flag : FlagKey → Bool → ServerConf → ServerConf
set_flag Flags.Daemon value conf = record conf { daemon = value }
set_flag Flags.WorkStealing value conf = record conf { work_stealing = value }
set_flag Flags.RuntimeEnableAltTimer value conf = record conf { runtime_enable_alt_timer = value }
set_flag Flags.UpstreamDebugSslKeylog value conf = record conf { upstream_debug_ssl_keylog = value }
set_flag Flags.RuntimeMetricsPollTimeHistogram value conf = record conf { runtime_metrics_poll_time_histogram = value }
set_flag Flags.DaemonWaitForReady value conf = record conf { daemon_wait_for_ready = value }

-- with another text
abbrev pub set_text : TextKey → List ℕ → ServerConf → ServerConf
set_text Texts.PidFile value conf = record conf { pid_file = value }
set_text Texts.UpgradeSock value conf = record conf { upgrade_sock = value }

-- with another optional text
abbrev pub set_optional_text : OptionalTextKey → Option (List ℕ) → ServerConf → ServerConf
set_optional_text OptionalTexts.ErrorLog value conf = record conf { error_log = value }
set_optional_text OptionalTexts.User value conf = record conf { user = value }
set_optional_text OptionalTexts.Group value conf = record conf { group = value }
set_optional_text OptionalTexts.WorkingDirectory value conf = record conf { working_directory = value }
set_optional_text OptionalTexts.CaFile value conf = record conf { ca_file = value }

-- with another optional number
abbrev pub set_optional_number : OptionalNumberKey → Option ℕ → ServerConf → ServerConf
set_optional_number OptionalNumbers.GracePeriodSeconds value conf = record conf { grace_period_seconds = value }
set_optional_number OptionalNumbers.GracefulShutdownTimeoutSeconds value conf = record conf { graceful_shutdown_timeout_seconds = value }
set_optional_number OptionalNumbers.UpstreamConnectOffloadThreadpools value conf = record conf { upstream_connect_offload_threadpools = value }
set_optional_number OptionalNumbers.UpstreamConnectOffloadThreadPerPool value conf = record conf { upstream_connect_offload_thread_per_pool = value }
set_optional_number OptionalNumbers.DownstreamTlsOffloadThreadpools value conf = record conf { downstream_tls_offload_threadpools = value }
set_optional_number OptionalNumbers.DownstreamTlsOffloadThreadPerPool value conf = record conf { downstream_tls_offload_thread_per_pool = value }
set_optional_number OptionalNumbers.UpgradeSockConnectAcceptMaxRetries value conf = record conf { upgrade_sock_connect_accept_max_retries = value }
set_optional_number OptionalNumbers.MaxBlockingThreads value conf = record conf { max_blocking_threads = value }
set_optional_number OptionalNumbers.BlockingThreadsTtlSeconds value conf = record conf { blocking_threads_ttl_seconds = value }
set_optional_number OptionalNumbers.FastTimeoutToTokioThresholdSeconds value conf = record conf { fast_timeout_to_tokio_threshold_seconds = value }
set_optional_number OptionalNumbers.RuntimeMetricsPollTimeHistogramResolutionMicros value conf =
    record conf { runtime_metrics_poll_time_histogram_resolution_micros = value }
set_optional_number OptionalNumbers.RuntimeMetricsPollTimeHistogramBuckets value conf = record conf { runtime_metrics_poll_time_histogram_buckets = value }
set_optional_number OptionalNumbers.DaemonReadyTimeoutSeconds value conf = record conf { daemon_ready_timeout_seconds = value }
set_optional_number OptionalNumbers.DaemonNotifyTimeoutSeconds value conf = record conf { daemon_notify_timeout_seconds = value }

-- with another list
abbrev pub set_list : ListKey → List (List ℕ) → ServerConf → ServerConf
set_list Lists.ClientBindToIpv4 value conf = record conf { client_bind_to_ipv4 = value }
set_list Lists.ClientBindToIpv6 value conf = record conf { client_bind_to_ipv6 = value }

-- with another scale of the histogram
abbrev pub set_scale : Option RuntimeMetricsPollTimeHistogramScale → ServerConf → ServerConf
set_scale value conf = record conf { runtime_metrics_poll_time_histogram_scale = value }

-- the number of a key
abbrev pub held_number : NumberKey → ServerConf → ℕ
held_number Numbers.Version conf = conf.version
held_number Numbers.Threads conf = conf.threads
held_number Numbers.ListenerTasksPerFd conf = conf.listener_tasks_per_fd
held_number Numbers.UpstreamKeepalivePoolSize conf = conf.upstream_keepalive_pool_size
held_number Numbers.MaxRetries conf = conf.max_retries

-- the flag of a key
abbrev pub held_flag : FlagKey → ServerConf → Bool
held_flag Flags.Daemon conf = conf.daemon
held_flag Flags.WorkStealing conf = conf.work_stealing
held_flag Flags.RuntimeEnableAltTimer conf = conf.runtime_enable_alt_timer
held_flag Flags.UpstreamDebugSslKeylog conf = conf.upstream_debug_ssl_keylog
held_flag Flags.RuntimeMetricsPollTimeHistogram conf = conf.runtime_metrics_poll_time_histogram
held_flag Flags.DaemonWaitForReady conf = conf.daemon_wait_for_ready

-- the text of a key
abbrev pub held_text : TextKey → ServerConf → List ℕ
held_text Texts.PidFile conf = conf.pid_file
held_text Texts.UpgradeSock conf = conf.upgrade_sock

-- the optional text of a key
abbrev pub held_optional_text : OptionalTextKey → ServerConf → Option (List ℕ)
held_optional_text OptionalTexts.ErrorLog conf = conf.error_log
held_optional_text OptionalTexts.User conf = conf.user
held_optional_text OptionalTexts.Group conf = conf.group
held_optional_text OptionalTexts.WorkingDirectory conf = conf.working_directory
held_optional_text OptionalTexts.CaFile conf = conf.ca_file

-- the optional number of a key
abbrev pub held_optional_number : OptionalNumberKey → ServerConf → Option ℕ
held_optional_number OptionalNumbers.GracePeriodSeconds conf = conf.grace_period_seconds
held_optional_number OptionalNumbers.GracefulShutdownTimeoutSeconds conf = conf.graceful_shutdown_timeout_seconds
held_optional_number OptionalNumbers.UpstreamConnectOffloadThreadpools conf = conf.upstream_connect_offload_threadpools
held_optional_number OptionalNumbers.UpstreamConnectOffloadThreadPerPool conf = conf.upstream_connect_offload_thread_per_pool
held_optional_number OptionalNumbers.DownstreamTlsOffloadThreadpools conf = conf.downstream_tls_offload_threadpools
held_optional_number OptionalNumbers.DownstreamTlsOffloadThreadPerPool conf = conf.downstream_tls_offload_thread_per_pool
held_optional_number OptionalNumbers.UpgradeSockConnectAcceptMaxRetries conf = conf.upgrade_sock_connect_accept_max_retries
held_optional_number OptionalNumbers.MaxBlockingThreads conf = conf.max_blocking_threads
held_optional_number OptionalNumbers.BlockingThreadsTtlSeconds conf = conf.blocking_threads_ttl_seconds
held_optional_number OptionalNumbers.FastTimeoutToTokioThresholdSeconds conf = conf.fast_timeout_to_tokio_threshold_seconds
held_optional_number OptionalNumbers.RuntimeMetricsPollTimeHistogramResolutionMicros conf = conf.runtime_metrics_poll_time_histogram_resolution_micros
held_optional_number OptionalNumbers.RuntimeMetricsPollTimeHistogramBuckets conf = conf.runtime_metrics_poll_time_histogram_buckets
held_optional_number OptionalNumbers.DaemonReadyTimeoutSeconds conf = conf.daemon_ready_timeout_seconds
held_optional_number OptionalNumbers.DaemonNotifyTimeoutSeconds conf = conf.daemon_notify_timeout_seconds

-- the list of a key
abbrev pub held_list : ListKey → ServerConf → List (List ℕ)
held_list Lists.ClientBindToIpv4 conf = conf.client_bind_to_ipv4
held_list Lists.ClientBindToIpv6 conf = conf.client_bind_to_ipv6
