-- What a server is configured with by default, which configuration is refused and for which key, and
-- which options of a runtime it gives.
use Rattle.std.specs.Prelude.{Bool, true, false, ◌==◌, if◌then◌else◌, List, [], ◌∷◌, Some, None, Result, Ok, Err, codes}
use Rattle.svc_conf.specs.declared.server.configuration.ServerConf.{ServerConf}
use Rattle.svc_conf.specs.declared.server.configuration.key.Key.{Key}
use Rattle.svc_conf.specs.declared.server.configuration.key.Key.TheVariants.{MaxBlockingThreads, RuntimeMetricsPollTimeHistogramResolutionMicros, RuntimeMetricsPollTimeHistogramBuckets, ListenerTasksPerFd, DaemonReadyTimeoutSeconds, DaemonNotifyTimeoutSeconds}
use Rattle.svc_base.specs.declared.runtime.RuntimeOpts.{RuntimeOpts}
use Rattle.svc_conf.specs.OptionalNumbers.{is_zero, is_above}

-- the configuration for which nothing was set
abbrev pub defaults : ServerConf
defaults = record {
  version = 0;
  daemon = false;
  error_log = None;
  pid_file = codes "/tmp/pingora.pid";
  upgrade_sock = codes "/tmp/pingora_upgrade.sock";
  user = None;
  group = None;
  working_directory = None;
  threads = 1;
  listener_tasks_per_fd = 1;
  work_stealing = true;
  runtime_enable_alt_timer = false;
  ca_file = None;
  grace_period_seconds = None;
  graceful_shutdown_timeout_seconds = None;
  client_bind_to_ipv4 = [];
  client_bind_to_ipv6 = [];
  upstream_keepalive_pool_size = 128;
  upstream_connect_offload_threadpools = None;
  upstream_connect_offload_thread_per_pool = None;
  downstream_tls_offload_threadpools = None;
  downstream_tls_offload_thread_per_pool = None;
  upstream_debug_ssl_keylog = false;
  max_retries = 16;
  upgrade_sock_connect_accept_max_retries = None;
  max_blocking_threads = None;
  blocking_threads_ttl_seconds = None;
  fast_timeout_to_tokio_threshold_seconds = Some 900;
  runtime_metrics_poll_time_histogram = false;
  runtime_metrics_poll_time_histogram_scale = None;
  runtime_metrics_poll_time_histogram_resolution_micros = None;
  runtime_metrics_poll_time_histogram_buckets = None;
  daemon_wait_for_ready = false;
  daemon_ready_timeout_seconds = None;
  daemon_notify_timeout_seconds = None;
}

-- for each rule, in the order in which they are looked at: whether it is broken, and the key to blame
abbrev pub rules_of : ServerConf → List (Bool × Key)
rules_of conf =
    (is_zero conf.max_blocking_threads, MaxBlockingThreads) ∷
    (is_zero conf.runtime_metrics_poll_time_histogram_resolution_micros, RuntimeMetricsPollTimeHistogramResolutionMicros) ∷
    (is_zero conf.runtime_metrics_poll_time_histogram_buckets, RuntimeMetricsPollTimeHistogramBuckets) ∷
    (is_above 1024 conf.runtime_metrics_poll_time_histogram_buckets, RuntimeMetricsPollTimeHistogramBuckets) ∷
    (conf.listener_tasks_per_fd == 0, ListenerTasksPerFd) ∷
    (is_zero conf.daemon_ready_timeout_seconds, DaemonReadyTimeoutSeconds) ∷
    (is_zero conf.daemon_notify_timeout_seconds, DaemonNotifyTimeoutSeconds) ∷
    []

-- the key of the first rule that is broken
abbrev pub first_broken : List (Bool × Key) → Result (Unit {0}) Key
first_broken [] = Ok tt
first_broken (rule ∷ more) = if rule.0 then Err rule.1 else first_broken more

-- what is judged of a configuration: the first rule that it breaks decides
abbrev pub judged : ServerConf → Result (Unit {0}) Key
judged conf = first_broken (rules_of conf)

-- the options of a runtime that a configuration asks for
abbrev pub runtime_opts_of : ServerConf → RuntimeOpts
runtime_opts_of conf = record {
  metrics = record {
    poll_time_histogram = conf.runtime_metrics_poll_time_histogram;
    poll_time_histogram_scale = conf.runtime_metrics_poll_time_histogram_scale;
    poll_time_histogram_resolution = conf.runtime_metrics_poll_time_histogram_resolution_micros;
    poll_time_histogram_buckets = conf.runtime_metrics_poll_time_histogram_buckets;
  };
  enable_alt_timer = conf.runtime_enable_alt_timer;
}
