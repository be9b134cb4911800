pub mod Secrets
